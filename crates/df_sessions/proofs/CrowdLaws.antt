-- Who is turned away, as sessions come, have their turns and go.
use Rattle.std.proofs.Common.{◌≡◌, inl, inr, ℕ, ◌+◌, ◌≤◌, ◌<◌, ◌⊎◌, Bool, true, false, cond, ltb, List, [], ◌∷◌, ◌++◌, length, get_or, set, drop, refl, sym, ap, ◌∙◌, subst, arith}
use Rattle.std.specs.List.{AllByRecursion, sum_by, swap_remove}
use Rattle.std.proofs.lemmas.Bool.{lt-ltb}
use Rattle.std.proofs.lemmas.List.{length-set, get_or-set_same}
use Rattle.std.proofs.lemmas.List.Sums.{sum_by-cons, sum_by_push, sum_by-set, sum_by-swap_remove}
use Rattle.df_model.specs.Spoken.{MAX_OPEN}
use Rattle.df_model.specs.declared.session.Why.TheVariants as whys
use Rattle.df_conn.specs.Turns.{IsGoing, StaysServed, is_away, is_too_many}
use Rattle.df_conn.specs.declared.conn.Stage.{Stage}
use Rattle.df_conn.specs.declared.conn.Stage.TheVariants as stages
use Rattle.df_sessions.specs.Sessions.{Sitting, Parted}
use Rattle.df_sessions.specs.AllSessions.{at_below, count_served, open_before, gone_before, served_before, Crowd, IsLate}
use Rattle.df_sessions.specs.Welcomes.{IsDue, turns_away}
use Rattle.df_sessions.specs.declared.welcome.Welcome.{Welcome}
use Rattle.df_sessions.specs.declared.welcome.Welcome.TheVariants as welcomes
use Rattle.df_sessions.proofs.ListLaws.{all_set, all_get, all_push, all_map, all_without_set}

abbrev bit : Bool → ℕ
bit away = cond away 0 1

abbrev counts : Sitting → ℕ
counts s = bit (is_away s.stage)

-- turned away only behind as many as may be served
abbrev OpenLate : List Sitting → List Parted → Sitting → Type 0
OpenLate seats gone s = is_away s.stage ≡ true → MAX_OPEN ≤ served_before s.id seats gone

abbrev GoneLate : List Sitting → List Parted → Parted → Type 0
GoneLate seats gone p = is_too_many p.why ≡ true → MAX_OPEN ≤ served_before p.id seats gone

-- ---- counts

count_case : (away : Bool) → cond away 0 1 ≤ 1
count_case true = omega arith
count_case false = omega arith

pub served_most : (seats : List Sitting) → count_served seats ≤ length seats
served_most [] = omega arith
served_most (s ∷ seats) = omega (arith, sum_by-cons counts s seats, count_case (is_away s.stage), served_most seats)

before_case : (away : Bool) (k : ℕ) → k ≡ 1 → cond away 0 1 ≤ cond away 0 k
before_case true k e = omega arith
before_case false k e = omega (arith, e)

-- all that are served have a place before one that is above them
all_before : (n : ℕ) (seats : List Sitting) → AllByRecursion (λ (s : Sitting). s.id < n) seats → count_served seats ≤ sum_by (open_before n) seats
all_before n [] a = omega arith
all_before n (s ∷ seats) a =
    omega (arith, sum_by-cons counts s seats, sum_by-cons (open_before n) s seats, before_case (is_away s.stage) (at_below n s.id) (ap {B = ℕ} (λ b. cond b 1 0) (lt-ltb s.id n a.0)), all_before n seats a.1)

-- ---- what was late stays so where no fewer come before

late_open : (seats seats' : List Sitting) (gone gone' : List Parted) → ((n : ℕ) → served_before n seats gone ≤ served_before n seats' gone') → (of : List Sitting) → AllByRecursion (OpenLate seats gone) of → AllByRecursion (OpenLate seats' gone') of
late_open seats seats' gone gone' more of a = all_map (OpenLate seats gone) (OpenLate seats' gone') of (λ s f e. omega (arith, f e, more s.id)) a

late_gone : (seats seats' : List Sitting) (gone gone' : List Parted) → ((n : ℕ) → served_before n seats gone ≤ served_before n seats' gone') → (of : List Parted) → AllByRecursion (GoneLate seats gone) of → AllByRecursion (GoneLate seats' gone') of
late_gone seats seats' gone gone' more of a = all_map (GoneLate seats gone) (GoneLate seats' gone') of (λ p f e. omega (arith, f e, more p.id)) a

-- ---- the events

pub crowd_starts : Crowd 0 [] []
crowd_starts = record { most = omega arith; below = tt; open_late = tt; gone_late = tt }

-- a session may come in so
abbrev pub MayEnter : List Sitting → Sitting → Type 0
MayEnter seats s = ((is_away s.stage ≡ false) × (count_served seats < MAX_OPEN)) ⊎ ((is_away s.stage ≡ true) × (count_served seats ≡ MAX_OPEN))

-- as its welcome says
pub may_enter : (welcome : Welcome) (seats : List Sitting) (s : Sitting) → count_served seats ≤ MAX_OPEN → is_away s.stage ≡ turns_away welcome → IsDue welcome (count_served seats) → MayEnter seats s
may_enter welcomes.In seats s most is due = inl (is, due)
may_enter (welcomes.Away line) seats s most is due = inr (is, omega (arith, most, due))

enters_most : (seats : List Sitting) (s : Sitting) → count_served seats ≤ MAX_OPEN → MayEnter seats s → count_served (seats ++ s ∷ []) ≤ MAX_OPEN
enters_most seats s most (inl served) = omega (arith, sum_by_push counts seats s, ap bit served.0, served.1)
enters_most seats s most (inr away) = omega (arith, sum_by_push counts seats s, ap bit away.0, most)

enters_late : (count : ℕ) (seats : List Sitting) (gone : List Parted) (s : Sitting) → AllByRecursion (λ (x : Sitting). x.id < count) seats → s.id ≡ count → MayEnter seats s → OpenLate (seats ++ s ∷ []) gone s
enters_late count seats gone s below is (inl served) e = absurd (cc (sym served.0 ∙ e))
enters_late count seats gone s below is (inr away) e =
    let under = all_map (λ (x : Sitting). x.id < count) (λ (x : Sitting). x.id < s.id) seats (λ x lt. omega (arith, lt, is)) below in
    omega (arith, away.1, all_before s.id seats under, sum_by_push (open_before s.id) seats s)

pub crowd_enters : (count : ℕ) (seats : List Sitting) (gone : List Parted) (s : Sitting) → Crowd count seats gone → s.id ≡ count → MayEnter seats s → Crowd (count + 1) (seats ++ s ∷ []) gone
crowd_enters count seats gone s h is may =
    let more : (n : ℕ) → served_before n seats gone ≤ served_before n (seats ++ s ∷ []) gone = λ n. omega (arith, sum_by_push (open_before n) seats s) in
    record {
      most = enters_most seats s h.most may;
      below = all_push (λ (x : Sitting). x.id < count + 1) seats s (all_map (λ (x : Sitting). x.id < count) (λ (x : Sitting). x.id < count + 1) seats (λ x lt. omega (arith, lt)) h.below) (omega (arith, is));
      open_late = all_push (OpenLate (seats ++ s ∷ []) gone) seats s (late_open seats (seats ++ s ∷ []) gone gone more seats h.open_late) (enters_late count seats gone s h.below is may);
      gone_late = late_gone seats (seats ++ s ∷ []) gone gone more gone h.gone_late;
    }

going_same : (old new : Stage) → IsGoing new → StaysServed old new → is_away new ≡ is_away old
going_same old stages.Open going f = sym f
going_same old stages.Calling going f = sym f
going_same old (stages.Closing why) going f = f
going_same old (stages.Over why) going f = absurd going

-- a turn that ends nothing
pub crowd_turns : (count : ℕ) (seats : List Sitting) (gone : List Parted) (at : ℕ) (s s' : Sitting) → Crowd count seats gone → at < length seats → s ≡ get_or seats at s → s'.id ≡ s.id → IsGoing s'.stage → StaysServed s.stage s'.stage →
    Crowd count (set seats at s') gone
crowd_turns count seats gone at s s' h lt is id going stays =
    let same = going_same s.stage s'.stage going stays in
    let before : (n : ℕ) → open_before n s' ≡ open_before n s = λ n. ap {B = ℕ} (λ b. cond b 0 (at_below n s'.id)) same ∙ ap {B = ℕ} (λ i. cond (is_away s.stage) 0 (at_below n i)) id in
    let equal : (n : ℕ) → served_before n (set seats at s') gone ≡ served_before n seats gone = λ n. omega (arith, sum_by-set (open_before n) seats at s' s lt, before n, ap (open_before n) is) in
    let more : (n : ℕ) → served_before n seats gone ≤ served_before n (set seats at s') gone = λ n. omega (arith, equal n) in
    let own : OpenLate seats gone s = subst (OpenLate seats gone) (sym is) (all_get (OpenLate seats gone) seats at s h.open_late lt) in
    let own_below : s.id < count = subst (λ (x : Sitting). x.id < count) (sym is) (all_get (λ (x : Sitting). x.id < count) seats at s h.below lt) in
    record {
      most = omega (arith, h.most, sum_by-set counts seats at s' s lt, ap bit same, ap counts is);
      below = all_set (λ (x : Sitting). x.id < count) seats at s' h.below (omega (arith, own_below, id));
      open_late = all_set (OpenLate (set seats at s') gone) seats at s' (late_open seats (set seats at s') gone gone more seats h.open_late)
          (λ e. omega (arith, own (sym same ∙ e), more s.id, ap (λ n. served_before n (set seats at s') gone) id));
      gone_late = late_gone seats (set seats at s') gone gone more gone h.gone_late;
    }

leaves_case : (away late : Bool) (x y : ℕ) → (late ≡ true → away ≡ true) → y ≡ x → cond away 0 x ≤ cond late 0 y
leaves_case true late x y f e = omega arith
leaves_case false true x y f e = absurd (cc (f refl))
leaves_case false false x y f e = omega (arith, e)

-- a turn that ended it, after which it leaves
pub crowd_leaves : (count : ℕ) (seats : List Sitting) (gone : List Parted) (at : ℕ) (s s' d : Sitting) (p : Parted) → Crowd count seats gone → at < length seats → s ≡ get_or seats at s → StaysServed s.stage (stages.Over p.why) → p.id ≡ s.id →
    Crowd count (swap_remove (set seats at s') at d) (gone ++ p ∷ [])
crowd_leaves count seats gone at s s' d p h lt is stays id =
    let left = swap_remove (set seats at s') at d in
    let there : get_or (set seats at s') at d ≡ s' = get_or-set_same seats at s' d lt in
    let within : at < length (set seats at s') = omega (arith, lt, length-set seats at s') in
    let without : (f : Sitting → ℕ) → sum_by f left + f s ≡ sum_by f seats = λ f. omega (arith, sum_by-swap_remove f (set seats at s') at d within, ap f there, sum_by-set f seats at s' s lt, ap f is) in
    let own : OpenLate seats gone s = subst (OpenLate seats gone) (sym is) (all_get (OpenLate seats gone) seats at s h.open_late lt) in
    let more : (n : ℕ) → served_before n seats gone ≤ served_before n left (gone ++ p ∷ []) = λ n.
    omega (arith, without (open_before n), sum_by_push (gone_before n) gone p, leaves_case (is_away s.stage) (is_too_many p.why) (at_below n s.id) (at_below n p.id) stays (ap (at_below n) id)) in
    record {
      most = omega (arith, h.most, without counts);
      below = all_without_set (λ (x : Sitting). x.id < count) seats at s' d lt h.below;
      open_late = late_open seats left gone (gone ++ p ∷ []) more left (all_without_set (OpenLate seats gone) seats at s' d lt h.open_late);
      gone_late = all_push (GoneLate left (gone ++ p ∷ [])) gone p (late_gone seats left gone (gone ++ p ∷ []) more gone h.gone_late)
          (λ e. omega (arith, own (stays e), more s.id, ap (λ n. served_before n left (gone ++ p ∷ [])) id));
    }

-- all have ended
pub crowd_ends : (count : ℕ) (gone : List Parted) → Crowd count [] gone → AllByRecursion (IsLate gone) gone
crowd_ends count gone h = all_map (GoneLate [] gone) (IsLate gone) gone (λ p f e. omega (arith, f (ap is_too_many e))) h.gone_late
