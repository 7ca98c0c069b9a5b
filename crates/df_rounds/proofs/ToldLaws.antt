-- What the steps of a command show of what its shards were asked and told.
use Rattle.std.proofs.Common.{◌≡◌, ℕ, zero, suc, ◌<◌, ◌≤◌, Bool, true, false, cond, not, is_some, length, List, [], ◌∷◌, ◌++◌, inl, inr, refl, sym, ap, ◌∙◌, arith}
use Rattle.std.specs.Prelude.{Option, Some, None, ◌&&◌, ◌||◌, nat_lt}
use Rattle.std.proofs.lemmas.Bool.{false≢true, true≢false, false_from_ne_true, or_cases, lt-ltb, le-ltb, ltb-true}
use Rattle.std.proofs.lemmas.Option.{none-some}
use Rattle.df_model.specs.Values.{Bytes}
use Rattle.df_model.specs.Keyspace.{Keyspace}
use Rattle.df_model.specs.Meaning.{meaning}
use Rattle.df_model.specs.declared.command.Command.{Command}
use Rattle.df_log.specs.Acts.{Changes, Act, Stage, Unstage, Told}
use Rattle.df_log.specs.Parts.{did}
use Rattle.df_core.specs.Altered.{altered}
use Rattle.df_core.specs.Courses.{Spread, keys_on, changes_on}
use Rattle.df_core.specs.Steps.{Step}
use Rattle.df_core.specs.Due.{some, is_nil, values_in, values_of, with_values, read_on, values_read, all_read, first_wanted, second_wanted}
use Rattle.df_core.proofs.HopLaws.{all_pass, one_passes}
use Rattle.df_core.proofs.StepLaws.{either_way}
use Rattle.df_core.proofs.DueLaws.{cond_found}
use Rattle.df_rounds.specs.Standing.{Asked, on_shards, round_wanted, read_of, stage_of, end_of, told_below, values_told, first_asked, asks, Once, step_told}

-- ---- shards below a number

pub some-same : (p q : ℕ → Bool) (n : ℕ) → ((t : ℕ) → t < n → p t ≡ q t) → some p n ≡ some q n
some-same p q zero h = refl
some-same p q (suc t) h = λ j. h t (omega arith) j || some-same p q t (λ u lt. h u (omega (arith, lt))) j

pub some-found : (p : ℕ → Bool) (n : ℕ) → some p n ≡ true → (t : ℕ) × (t < n) × (p t ≡ true)
some-found p zero h = absurd (false≢true h)
some-found p (suc t) h = elim (or_cases (p t) (some p t) h) [
  | inl e ↦ (t, omega arith, e)
  | inr e ↦ let v = some-found p t e in (v.0, omega (arith, v.1), v.2)
]

-- where none of them passes, each does not
pub some-none : (p : ℕ → Bool) (n : ℕ) → some p n ≡ false → (t : ℕ) → t < n → p t ≡ false
some-none p n h t lt = false_from_ne_true (p t) (λ e. false≢true (sym h ∙ one_passes p n t lt e))

-- ---- what is asked

pub on-in : (shards : ℕ) (asked : Asked) (s : ℕ) → s < shards → on_shards shards asked s ≡ asked s
on-in shards asked s lt = ap (λ b. cond b (asked s) None) (lt-ltb s shards lt)

pub on-out : (shards : ℕ) (asked : Asked) (s : ℕ) → shards ≤ s → on_shards shards asked s ≡ None
on-out shards asked s le = ap (λ b. cond b (asked s) None) (le-ltb s shards le)

-- what is asked is asked of a shard that there is
pub on-found : (shards : ℕ) (asked : Asked) (s : ℕ) (act : Act) → on_shards shards asked s ≡ Some act → (s < shards) × (asked s ≡ Some act)
on-found shards asked s act h = let c = cond_found (nat_lt s shards) (asked s) act h in (ltb-true s shards c.0, c.1)

-- a choice that gives something past a test did not pass it
pub not_so : {A : Type 0} (b : Bool) (x : Option A) (a : A) → cond b None x ≡ Some a → (b ≡ false) × (x ≡ Some a)
not_so true x a e = absurd (none-some a e)
not_so false x a e = (refl, e)

pub some-is : {A : Type 0} (o : Option A) → is_some o ≡ true → (a : A) × (o ≡ Some a)
some-is None e = absurd (false≢true e)
some-is (Some a) e = (a, refl)

pub none-is : {A : Type 0} (o : Option A) → is_some o ≡ false → o ≡ None
none-is None e = refl
none-is (Some a) e = absurd (true≢false e)

-- ---- keys, changes and the acts for them

pub keyless : (shards s : ℕ) (command : Command) (K : Keyspace) → keys_on shards s command ≡ [] → changes_on shards s command K ≡ []
keyless shards s command K e = ap (altered K (meaning command K).1) e

pub stage-some : (changes : Changes) (act : Act) → stage_of changes ≡ Some act → (not (is_nil changes) ≡ true) × (Stage changes ≡ act)
stage-some [] act e = absurd (none-some act e)
stage-some (c ∷ changes) act e = (refl, cc)

pub stage-none : (changes : Changes) → stage_of changes ≡ None → changes ≡ []
stage-none [] e = refl
stage-none (c ∷ changes) e = absurd (none-some _ (sym e))

pub end-some : (wanted : Bool) (act : Act) (o : Option Act) (found : Act) → end_of wanted act o ≡ Some found →
    (staged : Act) × (o ≡ Some staged) × (cond wanted Unstage act ≡ found)
end-some wanted act None found e = absurd (none-some found e)
end-some wanted act (Some staged) found e = (staged, refl, cc)

-- ---- a command with keys on several shards, whose first steps are its reads

module _ (h : ℕ) where
  pub begun : (keys : List Bytes) (x : Told) (rest : List Step) → (is_nil keys || not (is_nil (step_told h (read_of keys) x ++ rest))) ≡ true
  begun [] x rest = refl
  begun (k ∷ keys) x rest = refl

  first-want : (keys : List Bytes) (x : Told) (rest : List Step) → (keys ≡ [] → rest ≡ []) →
      first_wanted (step_told h (read_of keys) x ++ rest) ≡ (is_some (read_of keys) && not (did x))
  first-want [] x rest n = ap first_wanted (n refl)
  first-want (k ∷ keys) x rest n = refl

  with-same : (keys : List Bytes) (x : Told) (rest : List Step) (K L : Keyspace) → K ≡ L →
      with_values keys (values_of (step_told h (read_of keys) x ++ rest)) K ≡ with_values keys (values_in x) L
  with-same [] x rest K L e = e
  with-same (k ∷ keys) x rest K L e = ap (with_values (k ∷ keys) (values_in x)) e

  module _ (k : ℕ) (x y : Told) where
    pub staged-at : (keys : List Bytes) (changes : Changes) → (keys ≡ [] → changes ≡ []) →
        (is_nil changes || nat_lt 1 (length (step_told h (read_of keys) x ++ step_told k (stage_of changes) y))) ≡ true
    staged-at [] [] n = refl
    staged-at [] (c ∷ changes) n = absurd (none-some _ (sym (ap stage_of (n refl))))
    staged-at (q ∷ keys) [] n = refl
    staged-at (q ∷ keys) (c ∷ changes) n = refl

    pub second-at : (keys : List Bytes) (changes : Changes) → (keys ≡ [] → changes ≡ []) →
        second_wanted (step_told h (read_of keys) x ++ step_told k (stage_of changes) y) ≡ (is_some (stage_of changes) && not (did y))
    second-at [] [] n = refl
    second-at [] (c ∷ changes) n = absurd (none-some _ (sym (ap stage_of (n refl))))
    second-at (q ∷ keys) [] n = refl
    second-at (q ∷ keys) (c ∷ changes) n = refl

    pub two-long : (keys : List Bytes) (changes : Changes) → (keys ≡ [] → changes ≡ []) → not (is_nil changes) ≡ true →
        length (step_told h (read_of keys) x ++ step_told k (stage_of changes) y) ≡ 2
    two-long [] [] n e = absurd (false≢true e)
    two-long [] (c ∷ changes) n e = absurd (none-some _ (sym (ap stage_of (n refl))))
    two-long (q ∷ keys) [] n e = absurd (false≢true e)
    two-long (q ∷ keys) (c ∷ changes) n e = refl

  pub one-long : (x : Told) (keys : List Bytes) (changes : Changes) → (keys ≡ [] → changes ≡ []) → not (is_nil changes) ≡ true →
      length (step_told h (read_of keys) x) ≡ 1
  one-long x [] [] n e = absurd (false≢true e)
  one-long x [] (c ∷ changes) n e = absurd (none-some _ (sym (ap stage_of (n refl))))
  one-long x (q ∷ keys) changes n e = refl

module _ (shards : ℕ) (command : Command) (h : ℕ) (a : ℕ → Told) (own more : ℕ → List Step)
    (shape : (t : ℕ) → t < shards → own t ≡ step_told h (read_of (keys_on shards t command)) (a t) ++ more t)
    (none : (t : ℕ) → keys_on shards t command ≡ [] → more t ≡ []) where
  pub reads-all : all_read shards command own ≡ true
  reads-all =
      all_pass (λ t. is_nil (keys_on shards t command) || not (is_nil (own t))) shards
      (λ t lt. ap (λ l. is_nil (keys_on shards t command) || not (is_nil l)) (shape t lt) ∙ begun h (keys_on shards t command) (a t) (more t))

  pub reads-wanted : some (λ t. first_wanted (own t)) shards ≡ round_wanted shards (first_asked shards command Spread) a
  reads-wanted =
      some-same (λ t. first_wanted (own t)) (λ t. is_some (read_of (keys_on shards t command)) && not (did (a t))) shards
      (λ t lt. ap first_wanted (shape t lt) ∙ first-want h (keys_on shards t command) (a t) (more t) (none t))

  values-to : (n : ℕ) → n ≤ shards → read_on shards command own n ≡ told_below shards command a n
  values-to zero le = refl
  values-to (suc t) le =
      ap (λ l. with_values (keys_on shards t command) (values_of l) (read_on shards command own t)) (shape t (omega (arith, le)))
      ∙ with-same h (keys_on shards t command) (a t) (more t) (read_on shards command own t) (told_below shards command a t) (values-to t (omega (arith, le)))

  pub reads-values : values_read shards command own ≡ values_told shards command a
  reads-values = values-to shards (omega arith)

-- a shard with no key of the command is not asked to stage
pub no-second : (shards : ℕ) (command : Command) (a : ℕ → Told) (t : ℕ) → keys_on shards t command ≡ [] →
    asks shards command Spread (Once a) t ≡ None
no-second shards command a t e =
    ap (λ c. cond (nat_lt t shards) (cond (round_wanted shards (first_asked shards command Spread) a) None (stage_of c)) None)
    (keyless shards t command (values_told shards command a) e)
    ∙ ap (λ o. cond (nat_lt t shards) o None) (either_way (round_wanted shards (first_asked shards command Spread) a) None)
    ∙ either_way (nat_lt t shards) None
