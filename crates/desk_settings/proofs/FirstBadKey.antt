-- Where members ascend, the key at which the desk is refused is the least of the bad ones.
use Rattle.std.proofs.Common.{◌≡◌, Bool, true, false, cond, not, Option, Some, None, is_some, option_map, Err, refl, sym, ap, subst, ◌∙◌}
use Rattle.std.proofs.Common.{inl, inr, Ordering, Less, Equal, Greater, nat_cmp, codes}
use Rattle.std.specs.Cmp.{tied_itself}
use Rattle.std.specs.Cmp.Lexicographic.{slice_cmp}
use Rattle.std.specs.Option.{ok_or}
use Rattle.std.specs.Ordering.{is_lt, ordering_reverse}
use Rattle.std.specs.Str.{bytes_eq}
use Rattle.std.proofs.lemmas.Bool.{true≢false}
use Rattle.std.proofs.lemmas.Cmp.{nat_list_cmp_total}
use Rattle.gtfs_tables.specs.declared.fault.FeedFault.TheVariants as fault
use Rattle.gtfs_tables.specs.Reading.{◌>>=◌}
use Rattle.gtfs_tables.specs.Entries.{Name}
use Rattle.toml.specs.Data.{Data, Members, no_members, member, is_before}
use Rattle.desk_settings.specs.Desk.{with_key, standard_desk, is_bad, HasBad, NoBadBefore, Ascend, desk_from}
use Rattle.desk_settings.specs.declared.desk.DeskTable.{DeskTable}

map-some : {A B C : Type 0} (f : A → B) (g : A → C) (o : Option A) → is_some (option_map f o) ≡ is_some (option_map g o)
map-some f g None = refl
map-some f g (Some x) = refl

either-some : {A : Type 0} (b : Bool) (x y u v : Option A) → is_some x ≡ is_some u → is_some y ≡ is_some v
    → is_some (cond b x y) ≡ is_some (cond b u v)
either-some true x y u v here there = here
either-some false x y u v here there = there

-- whether a key is bad is the same for every desk
bad-anywhere : (desk other : DeskTable) (key : Name) (value : Data) → is_some (with_key desk key value) ≡ is_some (with_key other key value)
unfolding with_key
bad-anywhere desk other key value =
    either-some (bytes_eq key (codes "services")) _ _ _ _ (map-some _ _ _)
    (either-some (bytes_eq key (codes "date")) _ _ _ _ (map-some _ _ _)
    (either-some (bytes_eq key (codes "classes")) _ _ _ _ (map-some _ _ _)
    (either-some (bytes_eq key (codes "layover")) _ _ _ _ (map-some _ _ _)
    (either-some (bytes_eq key (codes "layovers")) _ _ _ _ (map-some _ _ _)
    (either-some (bytes_eq key (codes "early")) _ _ _ _ (map-some _ _ _)
    (either-some (bytes_eq key (codes "late")) _ _ _ _ (map-some _ _ _)
    (either-some (bytes_eq key (codes "block_prefix")) _ _ _ _ (map-some _ _ _)
    (either-some (bytes_eq key (codes "block_names")) _ _ _ _ (map-some _ _ _)
    (either-some (bytes_eq key (codes "prefer")) _ _ _ _ (map-some _ _ _) refl)))))))))

lt_from : (o : Ordering) → is_lt o ≡ true → o ≡ Less
lt_from Less h = refl
lt_from Equal h = absurd cc
lt_from Greater h = absurd cc

-- a key after another is not before it
after-not_before : (low high : Name) → slice_cmp nat_cmp low high ≡ Less → is_lt (slice_cmp nat_cmp high low) ≡ false
after-not_before low high less = ap is_lt (nat_list_cmp_total.antisymm high low ∙ ap ordering_reverse less)

-- no key of members after a key comes before it
none-before : (key : Name) (ms : Members) → is_before key ms ≡ true → Ascend ms → NoBadBefore key ms
none-before key no_members front ascend = tt
none-before key (member next value rest) front ascend =
    let less = lt_from (slice_cmp nat_cmp key next) front in
    ((λ bad. after-not_before key next less), none-before key rest (before-rest key next rest less ascend.0) ascend.1)
  where
    before-rest : (low high : Name) (ms : Members) → slice_cmp nat_cmp low high ≡ Less → is_before high ms ≡ true → is_before low ms ≡ true
    before-rest low high no_members less front = refl
    before-rest low high (member next value rest) less front =
        ap is_lt (nat_list_cmp_total.trans low high next less (lt_from (slice_cmp nat_cmp high next) front))

here-refused : (key bad : Name) (value : Data) (rest : Members) → key ≡ bad → is_bad key value ≡ true → is_before key rest ≡ true
    → Ascend rest
    → HasBad bad (member key value rest) × NoBadBefore bad (member key value rest)
here-refused key bad value rest same is front ascend =
    subst (λ first. HasBad first (member key value rest) × NoBadBefore first (member key value rest)) same
    (inl (refl, is), ((λ _. ap is_lt (tied_itself nat_list_cmp_total key)), none-before key rest front ascend))

later-refused : (key bad : Name) (value : Data) (rest : Members) → is_bad key value ≡ false → HasBad bad rest × NoBadBefore bad rest
    → HasBad bad (member key value rest) × NoBadBefore bad (member key value rest)
later-refused key bad value rest good later = (inr later.0, ((λ is. absurd (true≢false (sym is ∙ good))), later.1))

refused-by : (o : Option DeskTable) (key bad : Name) (value : Data) (rest : Members)
    → is_some o ≡ is_some (with_key standard_desk key value)
    → is_before key rest ≡ true → Ascend rest
    → ((desk : DeskTable) → desk_from desk rest ≡ Err (fault.BadSettings bad) → HasBad bad rest × NoBadBefore bad rest)
    → (ok_or o (fault.BadSettings key) >>= λ more. desk_from more rest) ≡ Err (fault.BadSettings bad)
    → HasBad bad (member key value rest) × NoBadBefore bad (member key value rest)
refused-by None key bad value rest same front ascend later is =
    let equal : key ≡ bad = cc in here-refused key bad value rest equal (sym (ap not same)) front ascend
refused-by (Some desk) key bad value rest same front ascend later is =
    later-refused key bad value rest (sym (ap not same)) (later desk is)

-- the key at which the desk is refused is a bad one, and no bad one comes before it
pub first_bad : (desk : DeskTable) (ms : Members) (bad : Name) → Ascend ms → desk_from desk ms ≡ Err (fault.BadSettings bad)
    → HasBad bad ms × NoBadBefore bad ms
first_bad desk no_members bad ascend is = absurd cc
first_bad desk (member key value rest) bad ascend is =
    refused-by (with_key desk key value) key bad value rest (bad-anywhere desk standard_desk key value) ascend.0 ascend.1
    (λ next. λ refused. first_bad next rest bad ascend.1 refused) is
