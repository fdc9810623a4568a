-- Groups of columns follow on each other, and what is seen of one says nothing of the others.
use Rattle.std.proofs.Common.{◌≡◌, ◌≢◌, ℕ, zero, suc, ◌+◌, ◌-◌, ◌<◌, ◌≤◌, Bool, true, false, cond, nat_eq, List, length, get_or, replicate}
use Rattle.std.proofs.Common.{set, Option, None, Some, refl, sym, ap, subst, ◌∙◌, ⊎_elim, arith}
use Rattle.std.specs.Option.{option_eq}
use Rattle.std.proofs.lemmas.Bool.{both_ways, cases_eq, eqb-true, cases_lt, lt-ltb, le-ltb}
use Rattle.std.proofs.lemmas.List.{get_or-replicate, get_or-set_same, get_or-set_other, length-set}
use Rattle.pair_search.specs.declared.groups.Group.{Group}
use Rattle.pair_search.specs.declared.order.Column.{Column}
use Rattle.pair_search.specs.declared.tree.Seen.{Seen}
use Rattle.pair_search.specs.Groups.{begins, group_at, group_pull, seen_at, AreGroups, AreApproached, AreNear, AreReached}
use Rattle.pair_search.specs.Search.{at, is_done, as_columns}
use Rattle.pair_search.specs.Side.{SideView, side_slots}
use Rattle.pair_search.proofs.LookLemmas.{stays}

-- two posts that are found equal
pub same-post : (a b : Option ℕ) → true ≡ option_eq nat_eq a b → a ≡ b
same-post None None e = refl
same-post None (Some y) e = absurd (both_ways true e refl)
same-post (Some x) None e = absurd (both_ways true e refl)
same-post (Some x) (Some y) e = ap Some (eqb-true x y (sym e))

-- where a group of so many begins
pub begins-there : (n count : ℕ) (groups : List Group) (r : ℕ) → r < count → begins n count groups r ≡ (group_at groups r).from
begins-there n count groups r lt = ap (λ b. cond b (group_at groups r).from n) (lt-ltb r count lt)

-- past the last one
pub begins-past : (n count : ℕ) (groups : List Group) (r : ℕ) → count ≤ r → begins n count groups r ≡ n
begins-past n count groups r le = ap (λ b. cond b (group_at groups r).from n) (le-ltb r count le)

-- each group ends before those after it begin
apart : (n : ℕ) (columns : List Column) (count : ℕ) (groups : List Group) → AreGroups n columns count groups → (r s : ℕ) → r < s
    → s < count → (group_at groups r).to ≤ (group_at groups s).from
apart n columns count groups are r zero lt within = absurd (omega (arith, lt))
apart n columns count groups are r (suc s) lt within = ⊎_elim
    (λ (before : r < s). omega (
      arith,
      apart n columns count groups are r s before (omega (arith, within)),
      are.after s
          (omega (arith, within)),
      next s (omega (arith, within)),
    ))
    (λ (last : s ≤ r). let same : r ≡ s = omega (arith, lt, last) in
    omega (arith, next s (omega (arith, within)), ap (λ t. (group_at groups t).to) same))
    (cases_lt r s)
  where
    next : (t : ℕ) → suc t < count → (group_at groups t).to ≡ (group_at groups (suc t)).from
    next t lt =
        let e : t + 1 ≡ suc t = omega arith in
        are.next t (omega (arith, lt)) ∙ ap (begins n count groups) e ∙ begins-there n count groups (suc t) lt

-- a column that stands in a group stands in no other
elsewhere : (n : ℕ) (columns : List Column) (count : ℕ) (groups : List Group) → AreGroups n columns count groups → (r s j : ℕ) → r < count
    → s < count → r ≢ s
    → (group_at groups r).from ≤ j → j < (group_at groups r).to → (group_at groups s).from ≤ j → j < (group_at groups s).to → ⊥
elsewhere n columns count groups are r s j r-in s-in ne from to from' to' = ⊎_elim
    (λ (lt : r < s). omega (arith, apart n columns count groups are r s lt s-in, to, from'))
    (λ (le : s ≤ r). omega (arith, apart n columns count groups are s r (omega (arith, le, ne)) r-in, to', from))
    (cases_lt r s)

-- no columns are in no groups
pub AreGroups-none : (columns : List Column) (groups : List Group) → AreGroups 0 columns 0 groups
AreGroups-none columns groups = record {
  few = omega arith;
  most = omega arith;
  room = omega arith;
  first = begins-past 0 0 groups 0 (omega arith);
  next = λ r lt. absurd (omega (arith, lt));
  after = λ r lt. absurd (omega (arith, lt));
  within = λ r lt. absurd (omega (arith, lt));
  posts = λ r k d lt. absurd (omega (arith, lt));
  rise = λ r h k d lt. absurd (omega (arith, lt));
  last = λ r d lt. absurd (omega (arith, lt));
}

-- the minutes of a group are at most its latest one
pub to-latest : (n : ℕ) (columns : List Column) (count : ℕ) (groups : List Group) → AreGroups n columns count groups
    → (r k : ℕ) (d : Column) → r < count
    → (group_at groups r).from ≤ k → k < (group_at groups r).to → (get_or columns k d).minute ≤ (group_at groups r).latest
to-latest n columns count groups are r k d lt after before =
    omega (arith, are.rise r k ((group_at groups r).to - 1) d lt after (omega (arith, before)) (omega (arith, before)), are.last r d lt)

-- one more group follows on those that are found
pub AreGroups-more : (from to : ℕ) (columns : List Column) (count : ℕ) (groups : List Group) (group : Group)
    → AreGroups from columns count groups → group.from ≡ from → group.to ≡ to → from < to → to ≤ 4096
    → count < length groups → ((k : ℕ) (d : Column) → from ≤ k → k < to → (get_or columns k d).post ≡ group.post)
    → ((h k : ℕ) (d : Column) → from ≤ h → h ≤ k → k < to → (get_or columns h d).minute ≤ (get_or columns k d).minute)
    → ((d : Column) → (get_or columns (to - 1) d).minute ≡ group.latest)
    → AreGroups to columns (count + 1) (set groups count group)
AreGroups-more from to columns count groups group are begin end rises few room posts rise last = record {
  few = omega (arith, are.few, rises);
  most = omega (arith, are.few, rises, few);
  room = omega (arith, room, length-set groups count group);
  first = begins-there to (count + 1) (set groups count group) 0 (omega arith) ∙ ⊎_elim
      (λ (some : 0 < count). ap (λ (g : Group). g.from) (other 0 some) ∙ sym (begins-there from count groups 0 some) ∙ are.first)
      (λ (none : count ≤ 0).
      let here : 0 ≡ count = omega (arith, none) in
      ap (λ r. (group_at (set groups count group) r).from) here ∙ ap (λ (g : Group). g.from) new ∙ begin
      ∙ sym (begins-past from count groups 0 none) ∙ are.first)
      (cases_lt 0 count);
  next = λ r lt. ⊎_elim
      (λ (before : r < count).
      ap (λ (g : Group). g.to) (other r before) ∙ are.next r before ∙ ⊎_elim
      (λ (inside : r + 1 < count).
      begins-there from count groups (r + 1) inside ∙ sym (ap (λ (g : Group). g.from) (other (r + 1) inside))
      ∙ sym (begins-there to (count + 1) (set groups count group) (r + 1) (omega (arith, inside))))
      (λ (last : count ≤ r + 1).
      let here : r + 1 ≡ count = omega (arith, before, last) in
      begins-past from count groups (r + 1) last ∙ sym begin ∙ sym (ap (λ (g : Group). g.from) new)
      ∙ sym (ap (λ t. (group_at (set groups count group) t).from) here)
      ∙ sym (begins-there to (count + 1) (set groups count group) (r + 1) (omega (arith, here))))
      (cases_lt (r + 1) count))
      (λ (last : count ≤ r).
      let here : r ≡ count = omega (arith, lt, last) in
      ap (λ (g : Group). g.to) (at-new r here) ∙ end
      ∙ sym (begins-past to (count + 1) (set groups count group) (r + 1) (omega (arith, last))))
      (cases_lt r count);
  after = λ r lt. ⊎_elim
      (λ (before : r < count). let same = other r before in
      omega (arith, ap (λ (g : Group). g.from) same, ap (λ (g : Group). g.to) same, are.after r before))
      (λ (last : count ≤ r). let same = at-new r (omega (arith, lt, last)) in
      omega (arith, ap (λ (g : Group). g.from) same, ap (λ (g : Group). g.to) same, begin, end, rises))
      (cases_lt r count);
  within = λ r lt. ⊎_elim
      (λ (before : r < count). omega (arith, ap (λ (g : Group). g.to) (other r before), are.within r before, rises))
      (λ (last : count ≤ r). omega (arith, ap (λ (g : Group). g.to) (at-new r (omega (arith, lt, last))), end))
      (cases_lt r count);
  posts = λ r k d lt after before. ⊎_elim
      (λ (old : r < count).
      let same = other r old in
      are.posts r k d old (omega (arith, after, ap (λ (g : Group). g.from) same)) (omega (arith, before, ap (λ (g : Group). g.to) same))
      ∙ sym (ap (λ (g : Group). g.post) same))
      (λ (last : count ≤ r).
      let same = at-new r (omega (arith, lt, last)) in
      posts k d (omega (arith, after, ap (λ (g : Group). g.from) same, begin)) (omega (arith, before, ap (λ (g : Group). g.to) same, end))
      ∙ sym (ap (λ (g : Group). g.post) same))
      (cases_lt r count);
  rise = λ r h k d lt after le before. ⊎_elim
      (λ (old : r < count).
      let same = other r old in
      are.rise r h k d old (omega (arith, after, ap (λ (g : Group). g.from) same)) le
      (omega (arith, before, ap (λ (g : Group). g.to) same)))
      (λ (last : count ≤ r).
      let same = at-new r (omega (arith, lt, last)) in
      rise h k d (omega (arith, after, ap (λ (g : Group). g.from) same, begin)) le
      (omega (arith, before, ap (λ (g : Group). g.to) same, end)))
      (cases_lt r count);
  last = λ r d lt. ⊎_elim
      (λ (old : r < count).
      let same = other r old in
      ap (λ (g : Group). (get_or columns (g.to - 1) d).minute) same ∙ are.last r d old ∙ sym (ap (λ (g : Group). g.latest) same))
      (λ (here : count ≤ r).
      let same = at-new r (omega (arith, lt, here)) in
      ap (λ (g : Group). (get_or columns (g.to - 1) d).minute) same ∙ ap (λ t. (get_or columns (t - 1) d).minute) end ∙ last d
      ∙ sym (ap (λ (g : Group). g.latest) same))
      (cases_lt r count);
}
  where
    new : group_at (set groups count group) count ≡ group
    new = get_or-set_same groups count group (record { post = None; from = 0; to = 0; latest = 0 }) room

    at-new : (r : ℕ) → r ≡ count → group_at (set groups count group) r ≡ group
    at-new r e = ap (group_at (set groups count group)) e ∙ new

    other : (r : ℕ) → r < count → group_at (set groups count group) r ≡ group_at groups r
    other r lt = get_or-set_other groups count r group (record { post = None; from = 0; to = 0; latest = 0 }) (λ e. omega (arith, lt, e))

-- columns of one group were approached
module _ (side : SideView) (are : AreGroups (side_slots side) side.columns side.count side.groups)
    (g first upto from cost near : ℕ) (enter : List ℕ) (done : List Bool)
    (dist parent dist' parent' : List ℕ)
    (approached : AreApproached first upto from cost enter (as_columns dist parent done) (as_columns dist' parent' done) near)
    (seen : List Seen) (now : Seen) (inside : g < side.count)
    (room : g < length seen) (after : (group_at side.groups g).from ≤ first) (within : upto ≤ (group_at side.groups g).to) where
  here : (r : ℕ) → r ≡ g → seen_at (set seen g now) r ≡ now
  here r e = ap (seen_at (set seen g now)) e ∙ get_or-set_same seen g now (record { near = 0; cost = 0; from = 0; minute = 0 }) room

  other : (r : ℕ) → r ≢ g → seen_at (set seen g now) r ≡ seen_at seen r
  other r ne = get_or-set_other seen g r now (record { near = 0; cost = 0; from = 0; minute = 0 }) ne

  -- columns of other groups are as far as before
  as-far : (r j : ℕ) → r < side.count → r ≢ g → (group_at side.groups r).from ≤ j → j < (group_at side.groups r).to → at dist' j ≡ at dist j
  as-far r j lt ne from to = ⊎_elim
      (λ (nearer : at dist' j < at dist j).
      let b = approached.between j nearer in
      absurd (elsewhere (side_slots side) side.columns side.count side.groups are r g j lt inside ne from to
      (omega (arith, b.0, after)) (omega (arith, b.1, within))))
      (λ (le : at dist j ≤ at dist' j). stays first upto _ cost near enter done dist parent dist' parent' approached j le)
      (cases_lt (at dist' j) (at dist j))

  pub AreNear-look : now.near ≤ (seen_at seen g).near → now.near ≤ near → AreNear side.count side.groups done dist seen
      → AreNear side.count side.groups done dist' (set seen g now)
  AreNear-look le le' old r j lt from to undone = ⊎_elim
      (λ (e : r ≡ g).
      let was : (seen_at seen g).near ≤ at dist j =
      old g j inside (omega (arith, from, ap (λ t. (group_at side.groups t).from) e))
      (omega (arith, to, ap (λ t. (group_at side.groups t).to) e)) undone in
      let same : (seen_at (set seen g now) r).near ≡ now.near = ap (λ (s : Seen). s.near) (here r e) in
      ⊎_elim
      (λ (nearer : at dist' j < at dist j). omega (arith, same, le', approached.least j nearer))
      (λ (far : at dist j ≤ at dist' j). omega (arith, same, le, was, far))
      (cases_lt (at dist' j) (at dist j)))
      (λ (ne : r ≡ g → ⊥). omega (arith, ap (λ (s : Seen). s.near) (other r ne), as-far r j lt ne from to, old r j lt from to undone))
      (cases_eq r g)

  pub AreReached-look : ((j : ℕ) → now.from ≤ j → (group_at side.groups g).from ≤ j → j < (group_at side.groups g).to
      → is_done done j ≡ false → at dist' j + 4503599627370496 + group_pull side g ≤ now.cost + at enter j)
      → ((j : ℕ) (d : Column) → (group_at side.groups g).from ≤ j → j < (group_at side.groups g).to → j < now.from
      → now.cost < 18446744073709551615 → (get_or side.columns j d).minute < now.minute)
      → AreReached side enter done dist seen → AreReached side enter done dist' (set seen g now)
  AreReached-look mine soon old = record {
    covered = λ r j lt past from to undone. ⊎_elim
        (λ (e : r ≡ g).
        let same = here r e in
        omega (
          arith,
          ap (λ (s : Seen). s.cost) same,
          ap (group_pull side) e,
          mine j (omega (arith, past, ap (λ (s : Seen). s.from) same)) (omega (arith, from, ap (λ t. (group_at side.groups t).from) e))
              (omega (arith, to, ap (λ t. (group_at side.groups t).to) e)) undone,
        ))
        (λ (ne : r ≡ g → ⊥).
        let same = other r ne in
        omega (
          arith,
          ap (λ (s : Seen). s.cost) same,
          as-far r j lt ne from to,
          old.covered r j lt (omega (arith, past, ap (λ (s : Seen). s.from) same)) from to undone,
        ))
        (cases_eq r g);
    sooner = λ r j d lt from to past reached. ⊎_elim
        (λ (e : r ≡ g).
        let same = here r e in
        omega (
          arith,
          ap (λ (s : Seen). s.minute) same,
          soon j d (omega (arith, from, ap (λ t. (group_at side.groups t).from) e))
              (omega (arith, to, ap (λ t. (group_at side.groups t).to) e)) (omega (arith, past, ap (λ (s : Seen). s.from) same))
              (omega (arith, reached, ap (λ (s : Seen). s.cost) same)),
        ))
        (λ (ne : r ≡ g → ⊥).
        let same = other r ne in
        omega (
          arith,
          ap (λ (s : Seen). s.minute) same,
          old.sooner r j d lt from to (omega (arith, past, ap (λ (s : Seen). s.from) same))
              (omega (arith, reached, ap (λ (s : Seen). s.cost) same)),
        ))
        (cases_eq r g);
  }

-- nothing is seen before a search
module _ (n count : ℕ) (groups : List Group) (done : List Bool) (dist : List ℕ) (seen : List Seen) (room : count ≤ n)
    (far : dist ≡ replicate n 4503599627370497)
    (within : (r : ℕ) → r < count → (group_at groups r).to ≤ n) where
  pub AreNear-none : (nears : (r : ℕ) → r < count → (seen_at seen r).near ≤ 4503599627370497) → AreNear count groups done dist seen
  AreNear-none nears r j lt from to undone =
      omega (arith, nears r lt, ap (λ xs. at xs j) far, get_or-replicate {A = ℕ} n j 4503599627370497 0 (omega (arith, to, within r lt)))

-- no column is reached before a search
pub AreReached-none : (side : SideView) (enter : List ℕ) (done : List Bool) (dist : List ℕ) (seen : List Seen) → side_slots side ≤ 4096
    → ((r : ℕ) → r < side.count → (group_at side.groups r).to ≤ side_slots side)
    → ((r : ℕ) → r < side.count → (65535 ≤ (seen_at seen r).from) × (18446744073709551615 ≤ (seen_at seen r).cost))
    → AreReached side enter done dist seen
AreReached-none side enter done dist seen small within none = record {
  covered = λ r j lt past from to undone. absurd (omega (arith, (none r lt).0, past, to, within r lt, small));
  sooner = λ r j d lt from to past reached. absurd (omega (arith, (none r lt).1, reached));
}

-- what is nearest in a group is known
module _ (count : ℕ) (groups : List Group) (done : List Bool) (dist : List ℕ) (seen : List Seen) (g : ℕ) (now : Seen)
    (room : g < length seen) where
  now-here : (r : ℕ) → r ≡ g → seen_at (set seen g now) r ≡ now
  now-here r e = ap (seen_at (set seen g now)) e ∙ get_or-set_same seen g now (record { near = 0; cost = 0; from = 0; minute = 0 }) room

  now-other : (r : ℕ) → r ≢ g → seen_at (set seen g now) r ≡ seen_at seen r
  now-other r ne = get_or-set_other seen g r now (record { near = 0; cost = 0; from = 0; minute = 0 }) ne

  pub AreNear-known : ((j : ℕ) → (group_at groups g).from ≤ j → j < (group_at groups g).to → is_done done j ≡ false → now.near ≤ at dist j)
      → AreNear count groups done dist seen
      → AreNear count groups done dist (set seen g now)
  AreNear-known mine old r j lt from to undone = ⊎_elim
      (λ (e : r ≡ g).
      omega (
        arith,
        ap (λ (s : Seen). s.near) (now-here r e),
        mine j (omega (arith, from, ap (λ t. (group_at groups t).from) e)) (omega (arith, to, ap (λ t. (group_at groups t).to) e)) undone,
      ))
      (λ (ne : r ≡ g → ⊥). omega (arith, ap (λ (s : Seen). s.near) (now-other r ne), old r j lt from to undone))
      (cases_eq r g)

  pub AreReached-known : (side : SideView) (enter : List ℕ) → now.cost ≡ (seen_at seen g).cost → now.from ≡ (seen_at seen g).from
      → now.minute ≡ (seen_at seen g).minute
      → AreReached side enter done dist seen → AreReached side enter done dist (set seen g now)
  AreReached-known side enter cost from minute old = record {
    covered = λ r j lt past after before undone. let same = alike r in
        omega (arith, same.0, old.covered r j lt (omega (arith, past, same.1)) after before undone);
    sooner = λ r j d lt after before past reached. let same = alike r in
        omega (arith, same.2, old.sooner r j d lt after before (omega (arith, past, same.1)) (omega (arith, reached, same.0)));
  }
    where
      alike : (r : ℕ) → ((seen_at (set seen g now) r).cost ≡ (seen_at seen r).cost)
          × ((seen_at (set seen g now) r).from ≡ (seen_at seen r).from)
          × ((seen_at (set seen g now) r).minute ≡ (seen_at seen r).minute)
      alike r = ⊎_elim
          (λ (e : r ≡ g).
          let same = now-here r e in (
            ap (λ (s : Seen). s.cost) same ∙ cost ∙ ap (λ t. (seen_at seen t).cost) (sym e),
            ap (λ (s : Seen). s.from) same ∙ from ∙ ap (λ t. (seen_at seen t).from) (sym e),
            ap (λ (s : Seen). s.minute) same ∙ minute ∙ ap (λ t. (seen_at seen t).minute) (sym e),
          ))
          (λ (ne : r ≡ g → ⊥).
          let same = now-other r ne in
          (ap (λ (s : Seen). s.cost) same, ap (λ (s : Seen). s.from) same, ap (λ (s : Seen). s.minute) same))
          (cases_eq r g)

-- what is said of lists is said of those that are equal to them
pub AreNear-same : (count : ℕ) (groups : List Group) (done done' : List Bool) (dist dist' : List ℕ) (seen seen' : List Seen) → done ≡ done'
    → dist ≡ dist' → seen ≡ seen'
    → AreNear count groups done dist seen → AreNear count groups done' dist' seen'
AreNear-same count groups done done' dist dist' seen seen' dones dists seens near =
    subst (λ xs. AreNear count groups xs dist' seen') dones
    (subst (λ xs. AreNear count groups done xs seen') dists (subst (λ xs. AreNear count groups done dist xs) seens near))

pub AreReached-same : (side : SideView) (enter : List ℕ) (done done' : List Bool) (dist dist' : List ℕ) (seen seen' : List Seen)
    → done ≡ done' → dist ≡ dist' → seen ≡ seen' → AreReached side enter done dist seen → AreReached side enter done' dist' seen'
AreReached-same side enter done done' dist dist' seen seen' dones dists seens reached =
    subst (λ xs. AreReached side enter xs dist' seen') dones
    (subst (λ xs. AreReached side enter done xs seen') dists (subst (λ xs. AreReached side enter done dist xs) seens reached))

-- what is seen of one group leaves how many there are
pub length-seen : (seen : List Seen) (g : ℕ) (now : Seen) → length (set seen g now) ≡ length seen
length-seen seen g now = length-set seen g now

-- of as many groups as there are nothing is seen
pub seen-none : (m : ℕ) (seen : List Seen) (none : Seen) → seen ≡ replicate m none → (r : ℕ) → r < m → seen_at seen r ≡ none
seen-none m seen none is r lt = ap (λ xs. seen_at xs r) is
    ∙ get_or-replicate {A = Seen} m r none (record { near = 0; cost = 0; from = 0; minute = 0 }) lt
