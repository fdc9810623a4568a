-- What follows from csv's words for how its reader reads: each record takes a byte, so there are no more
-- records than bytes, and the count of turns that the words carry makes no difference.
use Rattle.std.proofs.Common.{◌≡◌, ℕ, zero, suc, ◌+◌, ◌<◌, ◌≤◌, ◌==◌, ◌||◌, inl, List, [], ◌∷◌, length, Bool, true, false, cond, ◌++◌}
use Rattle.std.proofs.Common.{Option, Some, None, refl, ap, arith, ◌∙◌, add-one, IsSome, unwrap_or, MatchBool}
use Rattle.std.specs.Borrow.{Bor}
use Rattle.csv.specs.Machine.{Read, ends_at_end, field_after, fields_after, in_field, is_end, next_record, start_record, step}
use Rattle.csv.specs.Reading.{NextIs, ReadRecord, ReadsNext, pending_of, source_of, default_config, is_bom, is_flexible, records_from}
use Rattle.csv.specs.Reading.{records_next, strip_bom, took_first}
use Rattle.csv.specs.declared.reader.Reader.{Reader}
use Rattle.csv.specs.declared.parser.State.{State}
use Rattle.csv.specs.declared.parser.State.TheVariants as st
use Rattle.csv.specs.declared.parser.Action.{Action}
use Rattle.csv.specs.declared.parser.Action.TheVariants as act
use Rattle.gtfs_tables.specs.Records.{IsReader, records, records_in, unread}
use Rattle.gtfs_tables.specs.Records as words

-- where a byte ends a record, the machine then stands between two records
record Settles (move : State × Action) : Type 0 where
  ends : is_end move.1 ≡ true → ends_at_end move.0 ≡ false

either : (b : Bool) (x y : State × Action) → Settles x → Settles y → Settles (cond b x y)
either true x y p q = p
either false x y p q = q

goes_on : (s : State) (a : Action) → is_end a ≡ false → Settles (s, a)
goes_on s a e = record { ends = λ end. cc (e, end) }

after-settles : (b : Bool) → Settles (cond b st.AfterCr st.StartRecord, act.EndRecord)
after-settles true = record { ends = λ end. refl }
after-settles false = record { ends = λ end. refl }

field-settles : (c : ℕ) → Settles (in_field default_config c)
field-settles c =
    either (c == 44) _ _ (goes_on st.StartField act.EndField refl)
    (either ((c == 13) || (c == 10)) _ _ (after-settles (c == 13)) (goes_on st.InField act.Copy refl))

start-settles : (c : ℕ) → Settles (start_record default_config c)
start-settles c = either ((c == 13) || (c == 10)) _ _ (goes_on st.StartRecord act.Skip refl)
    (either (c == 34) _ _ (goes_on st.InQuoted act.Skip refl) (field-settles c))

settles : (s : State) (c : ℕ) → Settles (step default_config s c)
settles st.StartRecord c = start-settles c
settles st.StartField c = either (c == 34) _ _ (goes_on st.InQuoted act.Skip refl) (field-settles c)
settles st.InField c = field-settles c
settles st.InQuoted c = either (c == 34) _ _ (goes_on st.AfterQuote act.Skip refl) (goes_on st.InQuoted act.Copy refl)
settles st.InEscape c = goes_on st.InQuoted act.Copy refl
settles st.AfterQuote c = either (c == 34) _ _ (goes_on st.InQuoted act.Copy refl) (field-settles c)
settles st.InComment c = either (c == 10) _ _ (goes_on st.StartRecord act.Skip refl) (goes_on st.InComment act.Skip refl)
settles st.AfterCr c = either (c == 10) _ _ (goes_on st.StartRecord act.Skip refl) (start-settles c)

-- what a read of a record leaves: the machine between two records, and no more bytes than before
abbrev Leaves : ℕ → Option Read → Type 0
Leaves most None = Unit {0}
Leaves most (Some read) = (ends_at_end read.1 ≡ false) × (length read.2 ≤ most)

more : (m n : ℕ) (o : Option Read) → m ≤ n → Leaves m o → Leaves n o
more m n None h l = tt
more m n (Some read) h l = (l.0, omega (arith, l.1))

leaves : (bytes : List ℕ) (s : State) (fields : List (List ℕ)) (field : List ℕ)
    → Leaves (length bytes) (next_record default_config s fields field bytes)
unfolding next_record
leaves [] s fields field = by (ends_at_end s)
  where
    by : (b : Bool) → Leaves 0 (cond b (Some (fields ++ (field ∷ []), st.StartRecord, [])) None)
    by true = (refl, omega arith)
    by false = tt
leaves (c ∷ rest) s fields field = by (is_end (step default_config s c).1) (settles s c).ends (leaves rest _ _ _)
  where
    by : (b : Bool) → (b ≡ true → ends_at_end (step default_config s c).0 ≡ false)
        → Leaves (length rest) (next_record default_config (step default_config s c).0
        (fields_after (step default_config s c).1 fields field) (field_after (step default_config s c).1 c field) rest)
        → Leaves (suc (length rest)) (cond b
        (Some (fields_after (step default_config s c).1 fields field, (step default_config s c).0, rest))
        (next_record default_config (step default_config s c).0 (fields_after (step default_config s c).1 fields field)
        (field_after (step default_config s c).1 c field) rest))
    by true ends after = (ends refl, omega arith)
    by false ends after = more _ _ _ (omega arith) after

-- from between two records a read takes a byte at least
abbrev Takes : ℕ → Option Read → Type 0
Takes most None = Unit {0}
Takes most (Some read) = (ends_at_end read.1 ≡ false) × (length read.2 < most)

fewer : (n : ℕ) (o : Option Read) → Leaves n o → Takes (suc n) o
fewer n None l = tt
fewer n (Some read) l = (l.0, omega (arith, l.1))

takes : (s : State) (bytes : List ℕ) → ends_at_end s ≡ false → Takes (length bytes) (next_record default_config s [] [] bytes)
unfolding next_record
takes s [] between = rw between tt
takes s (c ∷ rest) between = by (is_end (step default_config s c).1) (settles s c).ends (fewer _ _ (leaves rest _ _ _))
  where
    by : (b : Bool) → (b ≡ true → ends_at_end (step default_config s c).0 ≡ false)
        → Takes (suc (length rest)) (next_record default_config (step default_config s c).0
        (fields_after (step default_config s c).1 [] []) (field_after (step default_config s c).1 c []) rest)
        → Takes (suc (length rest)) (cond b (Some (fields_after (step default_config s c).1 [] [], (step default_config s c).0, rest))
        (next_record default_config (step default_config s c).0 (fields_after (step default_config s c).1 [] [])
        (field_after (step default_config s c).1 c []) rest))
    by true ends after = (ends refl, omega arith)
    by false ends after = after

-- turns past the number of bytes make no difference
enough : (m n : ℕ) (s : State) (bytes : List ℕ) → ends_at_end s ≡ false → length bytes < m → length bytes < n
    → records_from default_config m s bytes ≡ records_from default_config n s bytes
unfolding records_from
enough zero n s bytes between a b = absurd (omega arith)
enough (suc m) zero s bytes between a b = absurd (omega arith)
enough (suc m) (suc n) s bytes between a b =
    by (next_record default_config s [] [] bytes) (takes s bytes between) (λ read. enough m n read.1 read.2)
  where
    by : (o : Option Read) → Takes (length bytes) o
        → ((read : Read) → ends_at_end read.1 ≡ false → length read.2 < m → length read.2 < n
        → records_from default_config m read.1 read.2 ≡ records_from default_config n read.1 read.2)
        → records_next (records_from default_config m) o ≡ records_next (records_from default_config n) o
    by None t rest = refl
    by (Some read) t rest = ap (λ (rows : List (List (List ℕ))). read.0 ∷ rows)
        (rest read t.0 (omega (arith, t.1, a)) (omega (arith, t.1, b)))

-- the records of these bytes, from a state on
abbrev pub after : State → List ℕ → List (List (List ℕ))
after s bytes = records_from default_config (length bytes + 1) s bytes

-- a read gives the first of the records that are left, and leaves the others
pub after-some : (s : State) (bytes : List ℕ) (read : Read) → ends_at_end s ≡ false → next_record default_config s [] [] bytes ≡ Some read
    → (after s bytes ≡ read.0 ∷ after read.1 read.2) × (ends_at_end read.1 ≡ false)
unfolding records_from
after-some s bytes read between e =
    let t : Takes (length bytes) (Some read) = rw e at (takes s bytes between) in (
      rw (add-one (length bytes), e) (ap (λ (rows : List (List (List ℕ))). read.0 ∷ rows) (enough _ _ read.1 read.2 t.0 t.1 (omega arith))),
      t.0,
    )

-- where a read finds no record, none are left
pub after-none : (s : State) (bytes : List ℕ) → next_record default_config s [] [] bytes ≡ None → after s bytes ≡ []
unfolding records_from
after-none s bytes e = rw (add-one (length bytes), e) refl

-- there are no more records than bytes
few-from : (n : ℕ) (s : State) (bytes : List ℕ) → ends_at_end s ≡ false → length (records_from default_config n s bytes) ≤ length bytes
unfolding records_from
few-from zero s bytes between = omega arith
few-from (suc n) s bytes between = by (next_record default_config s [] [] bytes) (takes s bytes between) (λ read. few-from n read.1 read.2)
  where
    by : (o : Option Read) → Takes (length bytes) o
        → ((read : Read) → ends_at_end read.1 ≡ false → length (records_from default_config n read.1 read.2) ≤ length read.2)
        → length (records_next (records_from default_config n) o) ≤ length bytes
    by None t rest = omega arith
    by (Some read) t rest = omega (arith, t.1, rest read t.0)

short : (bytes : List ℕ) → length (strip_bom bytes) ≤ length bytes
unfolding strip_bom
short [] = omega arith
short (a ∷ []) = omega arith
short (a ∷ b ∷ []) = omega arith
short (a ∷ b ∷ c ∷ rest) = by (is_bom a b c)
  where
    by : (mark : Bool) → length (cond mark rest (a ∷ b ∷ c ∷ rest)) ≤ suc (suc (suc (length rest)))
    by true = omega arith
    by false = omega arith

pub length-records-le : (bytes : List ℕ) → length (records bytes) ≤ length bytes
length-records-le bytes = omega (arith, short bytes, few-from (length (strip_bom bytes) + 1) st.StartRecord (strip_bom bytes) refl)

-- what a read of a reader says of the bytes that it had and has
found-some : (o : Option Read) (fields : List (List ℕ)) (s : State) (left : List ℕ) → NextIs o true fields s left
    → o ≡ Some (fields, s, left)
found-some None fields s left n = cc n
found-some (Some read) fields s left n = rw (n.1, n.2, n.3) refl

found-none : (o : Option Read) (fields : List (List ℕ)) (s : State) (left : List ℕ) → NextIs o false fields s left → o ≡ None
found-none None fields s left n = refl
found-none (Some read) fields s left n = cc n.0

known : (s t : State) (source left : Option (List ℕ)) (found : Bool) (fields : List (List ℕ)) → IsSome source → ends_at_end s ≡ false
    → ReadsNext default_config s source left found fields t
    → MatchBool found ((after s (unwrap_or source []) ≡ fields ∷ after t (unwrap_or left [])) × IsSome left × (ends_at_end t ≡ false))
    (after s (unwrap_or source []) ≡ [])
known s t None left found fields some between r = cc some
known s t (Some bytes) None found fields some between r = absurd r
known s t (Some bytes) (Some rest) true fields some between r =
    let next = after-some s bytes (fields, t, rest) between (found-some _ fields t rest r) in
    (next.0, refl, next.1)
known s t (Some bytes) (Some rest) false fields some between r = after-none s bytes (found-none _ fields t rest r)

-- a reader's read of a record
pub reads-next : (a b : Reader (Bor (List ℕ))) (found : Bool) (fields : List (List ℕ)) → IsReader a → took_first b ≡ true
    → is_flexible b ≡ is_flexible a → ReadRecord (λ (bytes : Bor (List ℕ)). Some bytes.now) a b found fields
    → words.ReadsQuoted a found fields b
reads-next a b found fields reading first flexible r =
    by found (known a.state b.state (source_of rem a) (pending_of (rem b.rdr) b) found fields reading.source reading.between
    (rw reading.config at r.0))
  where
    rem : Bor (List ℕ) → Option (List ℕ)
    rem bytes = Some bytes.now

    by : (f : Bool) → MatchBool f ((after a.state (unread a) ≡ fields ∷ after b.state (unwrap_or (pending_of (Some b.rdr.now) b) []))
        × IsSome (pending_of (Some b.rdr.now) b) × (ends_at_end b.state ≡ false)) (after a.state (unread a) ≡ [])
        → words.ReadsQuoted a f fields b
    by true h = (
      rw r.1 h.0,
      record {
        config = r.2 ∙ reading.config;
        untrimmed = r.3 ∙ reading.untrimmed;
        flexible = flexible ∙ reading.flexible;
        ready = inl first;
        source = rw r.1 h.1;
        between = h.2;
      },
    )
    by false h = h
