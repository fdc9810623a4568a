-- The desk and the plan at each moment of a script.
use Rattle.std.proofs.Common.{◌≡◌, ◌≢◌, ℕ, zero, suc, ◌+◌, ◌-◌, ◌<◌, ◌≤◌, ◌⊎◌, inl, inr, ⊎_elim, ◌||◌, Bool, true, false, List, [], ◌∷◌}
use Rattle.std.proofs.Common.{◌++◌, length, Option, None, Some, Result, Err, nat_le, if◌then◌else◌, refl, sym, ap, subst, ◌∙◌, arith}
use Rattle.std.specs.Prelude.{All, IsSome, is_some, pos, string_bytes, unsigned_abs}
use Rattle.std.proofs.lemmas.Bool.{false≢true, cases_lt, le-leb, leb-true}
use Rattle.trip_model.specs.Blocking.{IsFewest, IsLeast}
use Rattle.trip_model.specs.Deficit.{deficit, live_moves}
use Rattle.trip_model.specs.Links.{blocks_along}
use Rattle.trip_model.specs.Maximum.{sum_of_maxima}
use Rattle.trip_model.specs.Order.{by_departure}
use Rattle.trip_model.specs.Plain.{made, plain_network, trip_moves, AreMoves}
use Rattle.trip_model.specs.Timetable.{Slot, TimetableView, IsTimetable}
use Rattle.trip_model.specs.declared.trip.Move.{Move}
use Rattle.deadhead_matrix.specs.Fitting.{network_of}
use Rattle.deadhead_matrix.specs.Matrix.{MatrixView}
use Rattle.assignment_model.specs.Choice.{IsChosen}
use Rattle.assignment_model.specs.Prices.{Plan}
use Rattle.plan_choice.specs.Likings.{LikingsView}
use Rattle.deadhead_matrix.specs.Plans.{IsPlanFor, IsScheduled}
use Rattle.deadhead_matrix.specs.Pulls.{IsPull}
use Rattle.fixed_fleet.specs.Rule.{first_in_first_out}
use Rattle.edit_script.specs.Machine.{IsAt, machine, numbers_of}
use Rattle.edit_script.specs.Script.{IsNext, ScriptView, opened}
use Rattle.edit_script.specs.declared.edit.Edit.{Edit}
use Rattle.edit_script.specs.declared.edit.Edit.TheVariants.{Shift, Cancel, Restore, Extra, Undo, Redo, Show}
use Rattle.edit_script.specs.declared.edit.Line.TheVariants as line
use Rattle.edit_script.specs.declared.fault.EditFault.TheVariants as fault
use Rattle.edit_script.specs.declared.edit.Line.{Line}
use Rattle.edit_script.specs.declared.fault.EditFault.{EditFault}
use Rattle.desk_core.specs.Computed.{PlansView, first_plan, likes, plans_after}
use Rattle.desk_core.specs.Counts.{blocks_in}
use Rattle.desk_core.specs.Desk.{DeskView, IsRefused, plans_of}
use Rattle.desk_core.specs.Standing.{IsLed, IsOpened}
use Rattle.desk_feed.specs.Script.{IsStepped, first_records, line_at, record_at, refusal_in, refusal_text, refused_to, standing_at}
use Rattle.desk_feed.specs.Script.{gathered, state_at, step_at}
use Rattle.desk_feed.specs.Edited.{ending_after}
use Rattle.desk_feed.proofs.ScriptLemmas.{first-next, first-none, some-next, some-none}
use Rattle.edit_script.proofs.FoldsLemmas.{standing-folds}
use Rattle.feed_desk.specs.Answers.{Answer, answers_by, refusals}
use Rattle.feed_desk.specs.Plans.{ArePlanned, AreRelinked, IsFixed, fixed_number, most_for, most_to, plan_at, plans_at}
use Rattle.feed_desk.specs.Plans.{plans_by}
use Rattle.feed_desk.specs.Drawn.{HasFollowed}
use Rattle.feed_desk.specs.declared.follow.Followed.{Followed}
use Rattle.feed_desk.specs.Moments.{AreMoments, IsAnswered, IsFollowed, IsMoment}

-- a refusal that is not lack of memory is that of the script
pub refusal-named : (refused : EditFault) (edit : Edit) (due : Result ScriptView EditFault) → refused ≢ fault.Memory
    → IsRefused refused edit due → due ≡ Err refused
refusal-named fault.Memory edit due named is = absurd (named refl)
refusal-named refused edit due named is = is

-- a record of a number above those before it may be applied
pub next-of : (s : ScriptView) (number : ℕ) (edit : Edit) → s.last < number → IsNext s number edit
next-of s number (Shift trip by) lt = lt
next-of s number (Cancel trip) lt = lt
next-of s number (Restore trip) lt = lt
next-of s number (Extra trip from to departs arrives) lt = lt
next-of s number Undo lt = tt
next-of s number Redo lt = tt
next-of s number Show lt = tt

-- a moment is at most another one, or above it
by_order : (k m : ℕ) → (k ≤ m) ⊎ (m < k)
by_order k m = ⊎_elim (λ above. inr above) (λ within. inl within) (cases_lt m k)

-- one more desk, at the next moment
abbrev extend : (ℕ → DeskView) → ℕ → DeskView → ℕ → DeskView
extend desks m next k = if nat_le k m then desks k else next

extend-old : (desks : ℕ → DeskView) (m : ℕ) (next : DeskView) (k : ℕ) → k ≤ m → extend desks m next k ≡ desks k
extend-old desks m next k le = ap (λ b. if b then desks k else next) (le-leb k m le)

extend-new : (desks : ℕ → DeskView) (m : ℕ) (next : DeskView) (k : ℕ) → m < k → extend desks m next k ≡ next
extend-new desks m next k lt = by (nat_le k m) refl
  where
    by : (b : Bool) → nat_le k m ≡ b → (if b then desks k else next) ≡ next
    by true is = let le = leb-true k m is in absurd (omega (arith, le, lt))
    by false is = refl

-- the text by plans that are the same at each moment is the same
answers-same : (answer : Answer) (base : TimetableView) (lines : List Line) (plans other : ℕ → Plan) (n : ℕ)
    → ((k : ℕ) → k ≤ n → plans k ≡ other k)
    → answers_by answer base lines plans n ≡ answers_by answer base lines other n
unfolding answers_by gathered
answers-same answer base lines plans other zero same = refl
answers-same answer base lines plans other (suc n) same = λ i.
    answers-same answer base lines plans other n (λ k le. same k (omega (arith, le))) i
    ++ answer (n + 1) (line_at lines n) (standing_at base lines (suc n)) (same (suc n) (omega arith) i) (refusal_in (step_at base lines n))

answers-none : (answer : Answer) (base : TimetableView) (lines : List Line) (plans : ℕ → Plan) → answers_by answer base lines plans 0 ≡ []
unfolding answers_by gathered
answers-none answer base lines plans = refl

answers-more : (answer : Answer) (base : TimetableView) (lines : List Line) (plans : ℕ → Plan) (n : ℕ)
    → answers_by answer base lines plans (suc n)
    ≡ answers_by answer base lines plans n
    ++ answer (n + 1) (line_at lines n) (standing_at base lines (suc n)) (plans (suc n)) (refusal_in (step_at base lines n))
unfolding answers_by gathered
answers-more answer base lines plans n = refl

-- of refused records alone their lines are put
pub refusals-are : (base : TimetableView) (lines : List Line) (plans : ℕ → Plan) (n : ℕ)
    → answers_by refusals base lines plans n ≡ refused_to base lines n
unfolding answers_by refused_to gathered
refusals-are base lines plans zero = refl
refusals-are base lines plans (suc n) =
    ap (λ text. text ++ refusal_text (n + 1) (line_at lines n) (refusal_in (step_at base lines n))) (refusals-are base lines plans n)

-- and so are the steps
most-none : (base : TimetableView) (lines : List Line) → most_to base lines 0 ≡ 0
unfolding most_to gathered
most-none base lines = refl

most-more : (base : TimetableView) (lines : List Line) (n : ℕ)
    → most_to base lines (suc n) ≡ most_to base lines n + most_for (line_at lines n) (length (standing_at base lines (suc n)).slots)
    (refusal_in (step_at base lines n))
unfolding most_to gathered
most-more base lines n = refl

pub most-le : (base : TimetableView) (lines : List Line) (n d m : ℕ) → n + d ≡ m → most_to base lines n ≤ most_to base lines m
most-le base lines n zero m e = omega (arith, let same : n ≡ m = omega (arith, e) in ap (most_to base lines) same)
most-le base lines n (suc d) m e = omega (arith, most-le base lines (suc n) d m (omega (arith, e)), most-more base lines n)

-- before the first record
abbrev StartsAt : Type 0
StartsAt = (base : TimetableView) → IsAt base (machine base []) (opened base)

pub IsAnswered-none : StartsAt → (answer : Answer) (lines : List Line) (desk : DeskView) → IsOpened desk
    → IsPlanFor desk.script.timetable desk.matrix desk.plan → IsTimetable desk.script.timetable
    → (had : ℕ) → IsAnswered answer desk.script.timetable lines desk had 0 desk [] false had
IsAnswered-none starts answer lines desk is plan valid had =
    let base = desk.script.timetable in
    let script : opened base ≡ desk.script = ap opened (ap (λ s. s.timetable) is.script) ∙ sym is.script in
    let at : IsAt base (state_at base lines 0) desk.script =
    subst (λ records. IsAt base (machine base records) desk.script) (sym (first-none lines))
    (subst (IsAt base (machine base [])) script (starts base)) in
    record {
      desks = λ k. desk;
      are = record {
        begins = refl;
        ends = refl;
        each = λ k le. subst (λ m. IsMoment base lines desk.matrix m desk) (let none : 0 ≡ k = omega (arith, le) in none)
            (record { at = at; matrix_is = refl; plan = plan; valid = valid });
        follow = λ k lt. absurd (omega (arith, lt));
      };
      put = sym (answers-none answer base lines (λ k. desk.plan));
      some_is = sym (some-none base lines);
      counted = omega arith;
    }

-- and after each
module _ (answer : MatrixView → Answer) (base : TimetableView) (lines : List Line) (first : DeskView) (had m : ℕ) (last next : DeskView)
    (text more : List ℕ) (some : Bool) (old now : ℕ) (refused : Option EditFault)
    (so_far : IsAnswered (answer first.matrix) base lines first had m last text some old)
    (stepped : IsStepped (m + 1) (line_at lines m) refused last.script next.script)
    (followed : IsFollowed (line_at lines m) refused last next)
    (matrix : next.matrix ≡ last.matrix) (plan : IsPlanFor next.script.timetable next.matrix next.plan)
    (valid : IsTimetable next.script.timetable)
    (put : more ≡ text ++ answer next.matrix (m + 1) (line_at lines m) next.script.timetable next.plan refused)
    (counted : now ≤ old + most_for (line_at lines m) (length next.script.timetable.slots) refused) where
  abbrev before : AreMoments base lines first m last so_far.desks
  before = so_far.are

  last_is : IsMoment base lines first.matrix m last
  last_is = subst (IsMoment base lines first.matrix m) before.ends (before.each m (omega arith))

  step : (refused ≡ refusal_in (step_at base lines m))
      × IsAt base (machine base (first_records lines m ++ record_at lines m ∷ [])) next.script
  step = stepped base (first_records lines m) last_is.at

  same_matrix : next.matrix ≡ first.matrix
  same_matrix = matrix ∙ last_is.matrix_is

  next_is : IsMoment base lines first.matrix (suc m) next
  next_is = record {
    at = subst (λ records. IsAt base (machine base records) next.script) (sym (first-next lines m (suc m) (omega arith))) step.1;
    matrix_is = same_matrix;
    plan = subst (λ matrix. IsPlanFor next.script.timetable matrix next.plan) same_matrix plan;
    valid = valid;
  }

  abbrev desks : ℕ → DeskView
  desks = extend so_far.desks m next

  each : (k : ℕ) → k ≤ suc m → IsMoment base lines first.matrix k (desks k)
  each k le = ⊎_elim
      (λ old. subst (IsMoment base lines first.matrix k) (sym (extend-old so_far.desks m next k old)) (before.each k old))
      (λ new. subst (IsMoment base lines first.matrix k) (sym (extend-new so_far.desks m next k new))
      (subst (λ n. IsMoment base lines first.matrix n next) (let is : suc m ≡ k = omega (arith, le, new) in is) next_is))
      (by_order k m)

  at_m : desks m ≡ last
  at_m = extend-old so_far.desks m next m (omega arith) ∙ before.ends

  at_next : desks (suc m) ≡ next
  at_next = extend-new so_far.desks m next (suc m) (omega arith)

  -- what the record of a moment does
  abbrev Follows : ℕ → DeskView → DeskView → Type 0
  Follows k = IsFollowed (line_at lines k) (refusal_in (step_at base lines k))

  follow : (k : ℕ) → k < suc m → Follows k (desks k) (desks (suc k))
  follow k lt = ⊎_elim
      (λ (old : suc k ≤ m).
      subst (Follows k (desks k)) (sym (extend-old so_far.desks m next (suc k) old))
      (subst (λ desk. Follows k desk (so_far.desks (suc k))) (sym (extend-old so_far.desks m next k (omega (arith, old))))
      (before.follow k (omega (arith, old)))))
      (λ new. let is : m ≡ k = omega (arith, lt, new) in
      subst (λ k. Follows k (desks k) (desks (suc k))) is
      (subst (Follows m (desks m)) (sym at_next)
      (subst (λ desk. Follows m desk next) (sym at_m) (subst (λ r. IsFollowed (line_at lines m) r last next) step.0 followed))))
      (by_order (suc k) m)

  moments : AreMoments base lines first (suc m) next desks
  moments = record { begins = extend-old so_far.desks m next 0 (omega arith) ∙ before.begins; ends = at_next; each = each; follow = follow }

  written : more ≡ answers_by (answer first.matrix) base lines (λ k. (desks k).plan) (suc m)
  written =
      put
      ∙ (λ i. (so_far.put ∙ answers-same (answer first.matrix) base lines (λ k. (so_far.desks k).plan) (λ k. (desks k).plan) m
      (λ k le. ap (λ (d : DeskView). d.plan) (sym (extend-old so_far.desks m next k le)))) i
      ++ answer (same_matrix i) (m + 1) (line_at lines m) (next_is.at.timetable i) (sym (ap (λ (d : DeskView). d.plan) at_next) i)
      (step.0 i))
      ∙ sym (answers-more (answer first.matrix) base lines (λ k. (desks k).plan) m)

  -- the steps of the record are counted with those before it
  most-next : most_to base lines (suc m) ≡ most_to base lines m + most_for (line_at lines m) (length next.script.timetable.slots) refused
  most-next = most-more base lines m
      ∙ (λ i. most_to base lines m + most_for (line_at lines m) (length (sym next_is.at.timetable i).slots) (sym step.0 i))

  pub IsAnswered-next : (some_more : Bool) → some_more ≡ (some || is_some refused)
      → IsAnswered (answer first.matrix) base lines first had (m + 1) next more some_more now
  IsAnswered-next some_more some_is =
      subst (λ k. IsAnswered (answer first.matrix) base lines first had k next more some_more now)
      (let next : suc m ≡ m + 1 = omega arith in next) (record {
        desks = desks;
        are = moments;
        put = written;
        some_is = some_is ∙ (λ i. so_far.some_is i || is_some (step.0 i)) ∙ sym (some-next base lines m (suc m) (omega arith));
        counted = omega (arith, so_far.counted, counted, most-next);
      })

-- what is needed of the laws
abbrev pub AreRestored : Type 0
AreRestored = (start one two : DeskView) (before between : List DeskView) → IsOpened start → IsLed start before one → IsLed one between two
    → one.script.standing ≡ two.script.standing → (one.script.timetable ≡ two.script.timetable) × (one.plan ≡ two.plan)

abbrev pub AreProved : Type 0
AreProved = (timetable : TimetableView) (matrix : MatrixView) (plan : Plan) → IsTimetable timetable → All IsPull matrix.pulls
    → IsPlanFor timetable matrix plan
    → IsLeast (network_of timetable matrix) (blocks_along plan.next (by_departure (trip_moves timetable.slots)))

abbrev pub MakesMoves : Type 0
MakesMoves = (timetable : TimetableView) → IsTimetable timetable → AreMoves (length timetable.places) (trip_moves timetable.slots)

abbrev pub AreMade : Type 0
AreMade = (slots : List Slot) → made (trip_moves slots) ≡ live_moves slots

abbrev pub ReachesMaxima : Type 0
ReachesMaxima = (places : ℕ) (moves : List (Option Move)) → AreMoves places moves
    → IsFewest (plain_network moves) (blocks_along (first_in_first_out moves) (by_departure moves))
    × (pos (length (blocks_along (first_in_first_out moves) (by_departure moves))) ≡ sum_of_maxima (deficit (made moves)) places)

-- the fewest vehicles without deadheads
module _ (makes : MakesMoves) (are_made : AreMade) (reaches : ReachesMaxima) where
  pub fixed-is : (timetable : TimetableView) → IsTimetable timetable → IsFixed timetable (fixed_number timetable)
  fixed-is timetable valid =
      let moves = trip_moves timetable.slots in
      let reached = reaches (length timetable.places) moves (makes timetable valid) in
      let sum : pos (length (blocks_along (first_in_first_out moves) (by_departure moves))) ≡ sum_of_maxima
      (deficit (live_moves timetable.slots)) (length timetable.places) =
      reached.1 ∙ ap (λ ms. sum_of_maxima (deficit ms) (length timetable.places)) (are_made timetable.slots) in
      let count : length (blocks_along (first_in_first_out moves) (by_departure moves)) ≡ fixed_number timetable = ap unsigned_abs sum in
      record {
        maxima = ap pos (sym count) ∙ sum;
        blocks = blocks_along (first_in_first_out moves) (by_departure moves);
        fewest = reached.0;
        count = count;
      }

-- the plans of all moments
module _ (restores : AreRestored) (proves : AreProved) (makes : MakesMoves) (are_made : AreMade) (reaches : ReachesMaxima)
    (base : TimetableView) (lines : List Line) (first last : DeskView) (n : ℕ) (desks : ℕ → DeskView)
    (are : AreMoments base lines first n last desks) (opened : IsOpened first) (likings : LikingsView)
    (begun : first.plan ≡ first_plan base first.matrix likings) (pulls : All IsPull first.matrix.pulls)
    (chosen : IsChosen (network_of base first.matrix) (likes base first.matrix likings) (blocks_in base first.plan)) where
  -- from one moment to a later one a desk is led by the edits between them
  led-on : (m d : ℕ) → m + d ≤ n → (moments : List DeskView) × IsLed (desks m) moments (desks (m + d))
  led-on m zero le = ([], ap desks (let same : m + zero ≡ m = omega arith in same))
  led-on m (suc d) le =
      let rest = led-on (suc m) d (omega (arith, le)) in
      let there : suc m + d ≡ m + suc d = omega arith in
      let led : IsLed (desks (suc m)) rest.0 (desks (m + suc d)) = subst (λ k. IsLed (desks (suc m)) rest.0 (desks k)) there rest.1 in
      by (line_at lines m) (refusal_in (step_at base lines m)) (are.follow m (omega (arith, le))) rest.0 led
    where
      by : (l : Line) (refused : Option EditFault) → IsFollowed l refused (desks m) (desks (suc m)) → (rest : List DeskView)
          → IsLed (desks (suc m)) rest (desks (m + suc d)) → (moments : List DeskView) × IsLed (desks m) moments (desks (m + suc d))
      by (line.Edit edit) None followed rest led =
          (desks (suc m) ∷ rest, (record { number = followed.number; edit = edit; next = followed.next; done = followed.done }, led))
      by line.NotAnEdit None followed rest led = absurd followed
      by (line.Edit edit) (Some refused) followed rest led = (rest, subst (λ desk. IsLed desk rest (desks (m + suc d))) followed led)
      by line.NotAnEdit (Some refused) followed rest led = (rest, subst (λ desk. IsLed desk rest (desks (m + suc d))) followed led)

  in_order : (m d k : ℕ) → m + d ≡ k → k ≤ n → (state_at base lines m).standing ≡ (state_at base lines k).standing
      → (desks m).plan ≡ (desks k).plan
  in_order m d k there le standing =
      let before = led-on 0 m (omega (arith, there, le)) in
      let between = led-on m d (omega (arith, there, le)) in
      (restores first (desks m) (desks k) before.0 between.0 opened
      (subst (λ desk. IsLed desk before.0 (desks m)) are.begins
      (subst (λ k. IsLed (desks 0) before.0 (desks k)) (let same : 0 + m ≡ m = omega arith in same) before.1))
      (subst (λ k. IsLed (desks m) between.0 (desks k)) there between.1)
      ((are.each m (omega (arith, there, le))).at.standing ∙ ap numbers_of standing ∙ sym (are.each k le).at.standing)).1

  restored : (m k : ℕ) → m ≤ n → k ≤ n → (state_at base lines m).standing ≡ (state_at base lines k).standing
      → (desks m).plan ≡ (desks k).plan
  restored m k m_in k_in standing = ⊎_elim
      (λ le. in_order m (k - m) k (omega (arith, le)) k_in standing)
      (λ lt. sym (in_order k (m - k) m (omega (arith, lt)) m_in (sym standing)))
      (by_order m k)

  -- the timetable of a moment is valid, and the plan is one of it
  valid : (m : ℕ) → m ≤ n → IsTimetable (standing_at base lines m)
  valid m le = subst IsTimetable (are.each m le).at.timetable (are.each m le).valid

  abbrev IsPlanOf : TimetableView → Plan → Type 0
  IsPlanOf timetable plan = IsScheduled timetable first.matrix plan (blocks_in timetable plan)

  scheduled : (m : ℕ) → m ≤ n → IsPlanOf (standing_at base lines m) (desks m).plan
  scheduled m le =
      let here = are.each m le in
      subst (λ timetable. IsPlanOf timetable (desks m).plan) here.at.timetable (record {
        certified = here.plan;
        along = refl;
        least = proves (desks m).script.timetable first.matrix (desks m).plan here.valid pulls here.plan;
      })

  unchanged : (m : ℕ) → m < n → IsSome (refusal_in (step_at base lines m)) → (desks (suc m)).plan ≡ (desks m).plan
  unchanged m lt is = by (line_at lines m) (refusal_in (step_at base lines m)) (are.follow m lt) is
    where
      by : (l : Line) (refused : Option EditFault) → IsFollowed l refused (desks m) (desks (suc m)) → IsSome refused
          → (desks (suc m)).plan ≡ (desks m).plan
      by l None followed is = absurd (false≢true is)
      by (line.Edit edit) (Some refused) followed is = ap (λ (d : DeskView). d.plan) followed
      by line.NotAnEdit (Some refused) followed is = ap (λ (d : DeskView). d.plan) followed

  repaired : (m : ℕ) → m < n → AreRelinked (line_at lines m) (refusal_in (step_at base lines m)) (standing_at base lines m)
      (desks m).plan.next (desks (suc m)).plan.next
  repaired m lt =
      subst (λ t. AreRelinked (line_at lines m) (refusal_in (step_at base lines m)) t (desks m).plan.next (desks (suc m)).plan.next)
      (are.each m (omega (arith, lt))).at.timetable
      (by (line_at lines m) (refusal_in (step_at base lines m)) (are.follow m lt))
    where
      by : (l : Line) (refused : Option EditFault) → IsFollowed l refused (desks m) (desks (suc m))
          → AreRelinked l refused (desks m).script.timetable (desks m).plan.next (desks (suc m)).plan.next
      by (line.Edit edit) None followed = followed.done.links
      by line.NotAnEdit None followed = absurd followed
      by (line.Edit edit) (Some refused) followed = ap (λ (d : DeskView). d.plan.next) followed
      by line.NotAnEdit (Some refused) followed = ap (λ (d : DeskView). d.plan.next) followed

  -- the plans of each moment are those that are computed
  computed : (m : ℕ) → m ≤ n → plans_of (desks m) ≡ plans_at base lines first.matrix likings m
  unfolding plans_at gathered
  computed zero le = ap plans_of are.begins ∙ (λ i. record { plan = begun i; earlier = opened.earlier i; later = opened.later i })
  computed (suc m) le =
      by (line_at lines m) (refusal_in (step_at base lines m)) (are.follow m (omega (arith, le)))
      ∙ ap (plans_by (line_at lines m) (refusal_in (step_at base lines m)) (standing_at base lines m) (standing_at base lines (suc m))
      first.matrix) (computed m (omega (arith, le)))
    where
      here : IsMoment base lines first.matrix m (desks m)
      here = are.each m (omega (arith, le))

      there : IsMoment base lines first.matrix (suc m) (desks (suc m))
      there = are.each (suc m) le

      by : (l : Line) (refused : Option EditFault) → IsFollowed l refused (desks m) (desks (suc m))
          → plans_of (desks (suc m)) ≡ plans_by l refused (standing_at base lines m) (standing_at base lines (suc m)) first.matrix
          (plans_of (desks m))
      by (line.Edit edit) None followed = followed.done.plans
          ∙ (λ i. plans_after edit (here.at.timetable i) (there.at.timetable i) (here.matrix_is i) (plans_of (desks m)))
      by line.NotAnEdit None followed = absurd followed
      by (line.Edit edit) (Some refused) followed = ap plans_of followed
      by line.NotAnEdit (Some refused) followed = ap plans_of followed

  plan-is : (m : ℕ) → m ≤ n → (desks m).plan ≡ plan_at base lines first.matrix likings m
  plan-is m le = ap (λ (plans : PlansView). plans.plan) (computed m le)

  pub are-planned : n ≡ length lines → ArePlanned base lines first.matrix likings
  are-planned all = record {
    valid = λ m le. valid m (omega (arith, all, le));
    scheduled = λ m le. subst (IsPlanOf (standing_at base lines m)) (plan-is m (omega (arith, all, le)))
        (scheduled m (omega (arith, all, le)));
    without = λ m le. fixed-is makes are_made reaches (standing_at base lines m) (valid m (omega (arith, all, le)));
    chosen = subst (λ plan. IsChosen (network_of base first.matrix) (likes base first.matrix likings) (blocks_in base plan))
        (ap (λ (d : DeskView). d.plan) (sym are.begins) ∙ plan-is zero (omega arith)) chosen;
    restored = λ m k m_in k_in standing.
        sym (plan-is m (omega (arith, all, m_in))) ∙ restored m k (omega (arith, all, m_in)) (omega (arith, all, k_in)) standing
        ∙ plan-is k (omega (arith, all, k_in));
    unchanged = λ m lt is. sym (plan-is (suc m) (omega (arith, all, lt))) ∙ unchanged m (omega (arith, all, lt)) is
        ∙ plan-is m (omega (arith, all, lt));
    folds = λ m le. standing-folds base (first_records lines m);
    repaired = λ m lt.
        subst (λ (old : Plan). AreRelinked (line_at lines m) (refusal_in (step_at base lines m)) (standing_at base lines m) old.next
        (plan_at base lines first.matrix likings (suc m)).next)
        (plan-is m (omega (arith, all, lt)))
        (subst (λ (new : Plan). AreRelinked (line_at lines m) (refusal_in (step_at base lines m)) (standing_at base lines m)
        (desks m).plan.next new.next)
        (plan-is (suc m) (omega (arith, all, lt))) (repaired m (omega (arith, all, lt))));
  }

  -- a desk has followed the script with these plans
  pub has-followed : {D : Type 0} (answer : Answer) (followed : Followed D) → n ≡ length lines → followed.desk ≡ last
      → string_bytes followed.text ≡ answers_by answer base lines (λ k. (desks k).plan) n → followed.ending ≡ ending_after base lines
      → HasFollowed answer base lines first.matrix likings followed
  has-followed answer followed all is put end_is =
      let last_is = subst (IsMoment base lines first.matrix n) are.ends (are.each n (omega arith)) in
      record {
        are = are-planned all;
        pulls = pulls;
        timetable = ap (λ (d : DeskView). d.script.timetable) is ∙ last_is.at.timetable ∙ ap (standing_at base lines) all;
        matrix_is = ap (λ (d : DeskView). d.matrix) is ∙ last_is.matrix_is;
        plan = ap (λ (d : DeskView). d.plan) (is ∙ sym are.ends) ∙ plan-is n (omega arith) ∙ ap (plan_at base lines first.matrix likings) all;
        text = put ∙ answers-same answer base lines (λ k. (desks k).plan) (plan_at base lines first.matrix likings) n plan-is
            ∙ ap (answers_by answer base lines (plan_at base lines first.matrix likings)) all;
        ending = end_is;
      }
