-- Why a failed try goes back to the last star alone: the leftmost place at which the parts before a star fit serves.
use Rattle.std.proofs.Common.{◌≡◌, ℕ, List, [], ◌∷◌, ◌++◌, refl, sym, ap, ◌∙◌, Bool, true, false, ◌&&◌, ◌||◌, cond, append_assoc, ◌⊎◌, inl, inr}
use Rattle.df_model.specs.Values.{Bytes}
use Rattle.df_model.specs.Patterns.{Part, takes, matches, some_suffix}
use Rattle.df_text.specs.Runs.{Ran, ran}

-- whether a run ends in a match
abbrev pub ends : Ran → Bool
ends Ran.Matched = true
ends Ran.Failed = false
ends (Ran.AtStar ps text) = some_suffix (matches ps) text

guarded : (t : Bool) (b : Bool) (r : Ran) → b ≡ ends r → (t && b) ≡ ends (cond t r Ran.Failed)
guarded true b r e = e
guarded false b r e = refl

-- what a run comes to decides the match
pub matches_ran : (ps : List Part) (text : Bytes) → matches ps text ≡ ends (ran ps text)
matches_ran [] [] = refl
matches_ran [] (b ∷ bs) = refl
matches_ran (Part.Star ∷ ps) text = refl
matches_ran (Part.Any ∷ ps) [] = refl
matches_ran (Part.Any ∷ ps) (b ∷ bs) = matches_ran ps bs
matches_ran (Part.One x ∷ ps) [] = refl
matches_ran (Part.One x ∷ ps) (b ∷ bs) = guarded (takes (Part.One x) b) (matches ps bs) (ran ps bs) (matches_ran ps bs)
matches_ran (Part.Class n rs ∷ ps) [] = refl
matches_ran (Part.Class n rs ∷ ps) (b ∷ bs) = guarded (takes (Part.Class n rs) b) (matches ps bs) (ran ps bs) (matches_ran ps bs)

-- ---- suffixes

or_right : (a b : Bool) → b ≡ true → (a || b) ≡ true
or_right true b e = refl
or_right false b e = e

-- what some suffix of a suffix passes, some suffix passes
pub more_suffixes : (test : Bytes → Bool) (front text : Bytes) → some_suffix test text ≡ true → some_suffix test (front ++ text) ≡ true
more_suffixes test [] text e = e
more_suffixes test (b ∷ bs) text e = or_right (test (b ∷ bs ++ text)) (some_suffix test (bs ++ text)) (more_suffixes test bs text e)

-- what the whole text passes, some suffix passes
pub itself : (test : Bytes → Bool) (text : Bytes) → test text ≡ true → some_suffix test text ≡ true
itself test [] e = e
itself test (b ∷ bs) e = rw e refl

or_true : (a b : Bool) → (a || b) ≡ true → (a ≡ true) ⊎ (b ≡ true)
or_true true b e = inl refl
or_true false b e = inr e

both_true : (a b : Bool) → (a && b) ≡ true → (a ≡ true) × (b ≡ true)
both_true true b e = (refl, e)
both_true false b e = cc

went_on : (t : Bool) (r : Ran) (ps : List Part) (left : Bytes) → cond t r Ran.Failed ≡ Ran.AtStar ps left → r ≡ Ran.AtStar ps left
went_on true r ps left e = e
went_on false r ps left e = cc

same_parts : (ps qs : List Part) (a b : Bytes) → Ran.AtStar ps a ≡ Ran.AtStar qs b → (ps ≡ qs) × (a ≡ b)
same_parts ps qs a b e = (ap (λ r. elim r [ Ran.Matched ↦ ps | Ran.Failed ↦ ps | Ran.AtStar xs t ↦ xs ]) e, ap (λ r. elim r [ Ran.Matched ↦ a | Ran.Failed ↦ a | Ran.AtStar xs t ↦ t ]) e)

at_star : (ps qs : List Part) (front text left : Bytes) → Ran.AtStar ps (front ++ text) ≡ Ran.AtStar qs left → some_suffix (matches ps) text ≡ true → some_suffix (matches qs) left ≡ true
at_star ps qs front text left e m =
    let s : (ps ≡ qs) × (front ++ text ≡ left) = same_parts ps qs (front ++ text) left e in
    rw (← s.0, ← s.1) (more_suffixes (matches ps) front text m)

-- a later place at which the parts match lies behind the star too
later : (ps qs : List Part) (front text left : Bytes) → ran ps (front ++ text) ≡ Ran.AtStar qs left → matches ps text ≡ true → some_suffix (matches qs) left ≡ true
later [] qs [] [] left e m = cc
later [] qs [] (b ∷ bs) left e m = cc
later [] qs (f ∷ fs) text left e m = cc
later (Part.Star ∷ ps) qs front text left e m = at_star ps qs front text left e m
later (Part.Any ∷ ps) qs front [] left e m = cc
later (Part.Any ∷ ps) qs [] (b ∷ bs) left e m = later ps qs [] bs left e m
later (Part.Any ∷ ps) qs (f ∷ fs) (b ∷ bs) left e m = later ps qs (fs ++ b ∷ []) bs left (rw (append_assoc fs (b ∷ []) bs) e) m
later (Part.One x ∷ ps) qs front [] left e m = cc
later (Part.One x ∷ ps) qs [] (b ∷ bs) left e m = later ps qs [] bs left (went_on (takes (Part.One x) b) _ _ _ e) (both_true _ _ m).1
later (Part.One x ∷ ps) qs (f ∷ fs) (b ∷ bs) left e m = later ps qs (fs ++ b ∷ []) bs left (rw (append_assoc fs (b ∷ []) bs) (went_on (takes (Part.One x) f) _ _ _ e)) (both_true _ _ m).1
later (Part.Class n rs ∷ ps) qs front [] left e m = cc
later (Part.Class n rs ∷ ps) qs [] (b ∷ bs) left e m = later ps qs [] bs left (went_on (takes (Part.Class n rs) b) _ _ _ e) (both_true _ _ m).1
later (Part.Class n rs ∷ ps) qs (f ∷ fs) (b ∷ bs) left e m = later ps qs (fs ++ b ∷ []) bs left (rw (append_assoc fs (b ∷ []) bs) (went_on (takes (Part.Class n rs) f) _ _ _ e)) (both_true _ _ m).1

-- some suffix of what stands behind a front matches only where one behind the star does
later_all : (ps qs : List Part) (front text left : Bytes) → ran ps (front ++ text) ≡ Ran.AtStar qs left → some_suffix (matches ps) text ≡ true → some_suffix (matches qs) left ≡ true
later_all ps qs front [] left e m = later ps qs front [] left e m
later_all ps qs front (b ∷ bs) left e m =
    elim (or_true (matches ps (b ∷ bs)) (some_suffix (matches ps) bs) m) [
      | inl h ↦ later ps qs front (b ∷ bs) left e h
      | inr h ↦ later_all ps qs (front ++ b ∷ []) bs left (rw (append_assoc front (b ∷ []) bs) e) h
    ]

same_bool : (a b : Bool) → (a ≡ true → b ≡ true) → (b ≡ true → a ≡ true) → a ≡ b
same_bool true b f g = sym (f refl)
same_bool false true f g = g refl
same_bool false false f g = refl

-- the leftmost place before a star serves
pub leftmost : (ps qs : List Part) (text left : Bytes) → ran ps text ≡ Ran.AtStar qs left → some_suffix (matches ps) text ≡ some_suffix (matches qs) left
leftmost ps qs text left e = same_bool _ _
    (later_all ps qs [] text left e)
    (λ h. itself (matches ps) text (matches_ran ps text ∙ ap ends e ∙ h))

-- where the run fails, a match begins later or nowhere
pub past_first : (ps : List Part) (text : Bytes) (b : ℕ) (bs : Bytes) → text ≡ b ∷ bs → ran ps text ≡ Ran.Failed → some_suffix (matches ps) text ≡ some_suffix (matches ps) bs
past_first ps text b bs e f =
    let no : matches ps text ≡ false = matches_ran ps text ∙ ap ends f in
    let here : matches ps (b ∷ bs) ≡ false = rw (← e) no in
    rw (e, here) refl

-- at the end of the text no suffix is left to try
pub past_all : (ps : List Part) (text : Bytes) → text ≡ [] → ran ps text ≡ Ran.Failed → some_suffix (matches ps) text ≡ false
past_all ps text e f =
    let no : matches ps text ≡ false = matches_ran ps text ∙ ap ends f in
    let here : matches ps [] ≡ false = rw (← e) no in
    rw (e, here) refl
