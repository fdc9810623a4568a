-- The fields of a record that is written, as they are read.
use Rattle.std.proofs.Common.{◌≡◌, ℕ, ◌<◌, ◌≤◌, ◌==◌, ◌^◌, not, cond, false, List, length, Some, None, Result, Ok, Err, ap, ◌∙◌, arith}
use Rattle.std.specs.Fmt.{decimal}
use Rattle.std.specs.Option.{ok_or}
use Rattle.std.proofs.lemmas.Bool.{ne_eqb, le-leb}
use Rattle.std.proofs.lemmas.Fmt.{decimal_nonempty}
use Rattle.gtfs_tables.specs.declared.fault.FeedFault.{FeedFault}
use Rattle.gtfs_tables.specs.declared.fault.FeedFault.TheVariants as fault
use Rattle.gtfs_tables.specs.declared.paper.Column.{Column}
use Rattle.gtfs_tables.specs.declared.paper.Paper.{Paper}
use Rattle.gtfs_tables.specs.Reading.{◌>>=◌, at_most, filled_in, number_in}
use Rattle.block_build.specs.Names.{IsName}
use Rattle.claim_files.proofs.Digits.{number-back, decimal-text}

-- what is read in two parts
pub then : {A B : Type 0} (read : Result A FeedFault) (x : A) (next : A → Result B FeedFault) (given : Result B FeedFault) → read ≡ Ok x
    → next x ≡ given → (read >>= next) ≡ given
then read x next given is rest = ap (λ r. r >>= next) is ∙ rest

pub filled-back : (paper : Paper) (number : ℕ) (column : Column) (name : List ℕ) → 0 < length name
    → filled_in paper number column name ≡ Ok name
filled-back paper number column name some =
    let other : (length name == 0) ≡ false = ne_eqb (length name) 0 (λ e. absurd (omega (arith, some, e))) in
    ap (λ b. cond (not b) (Ok name) (Err (fault.EmptyField paper number column))) other

pub number_in-back : (paper : Paper) (number : ℕ) (column : Column) (digits most value : ℕ) → 0 < digits → value ≤ most
    → value < 10 ^ digits → value < 2 ^ 64
    → number_in paper number column digits most (decimal value) ≡ Ok value
number_in-back paper number column digits most value some small fits wide =
    ap (λ found. ok_or (at_most most found) (fault.BadNumber paper number column)) (number-back digits value some fits wide)
    ∙ ap (λ b. ok_or (cond b (Some value) None) (fault.BadNumber paper number column)) (le-leb value most small)

pub decimal-name : (n : ℕ) → n < 2 ^ 64 → IsName (decimal n)
decimal-name n small = record { text = decimal-text n small; filled = decimal_nonempty n small }
