-- One call after another: what both of them came to.
use Rattle.std.proofs.Common.{◌≡◌, ℕ, ◌+◌, inl, inr, [], ◌++◌, length, refl, sym, ap, subst, ◌∙◌, arith, append_assoc, append-nil, length-append}
use Rattle.std.specs.Prelude.{Option, Some, None, Result, Ok, Err}
use Rattle.std.specs.Result.{IsErrAnd}
use Rattle.std.proofs.lemmas.Result.{err_from_is_err_and}
use Rattle.df_model.specs.Values.{Bytes}
use Rattle.df_outside.specs.Disks.{Stored, Told}
use Rattle.df_rdbcore.specs.Reading.{place_of}
use Rattle.df_rdbcore.specs.declared.fault.LoadFault.{LoadFault}
use Rattle.df_rdbcore.specs.declared.fault.LoadFault.TheVariants as faults
use Rattle.df_rdbload.specs.Stops.{Stops}
use Rattle.df_rdbload.specs.Sources.{Stage, IsAt, HasFile, HasNone, StillCounts, HasCause, Goes, Whole, Halts, Tells, Reads}

-- ---- the disk

pub kept_none : (s : Option Stored) → Told s s (λ a b. b ≡ a)
kept_none None = tt
kept_none (Some x) = refl

pub kept_on : (s t u : Option Stored) → Told s t (λ a b. b ≡ a) → Told t u (λ a b. b ≡ a) → Told s u (λ a b. b ≡ a)
kept_on None None None p q = tt
kept_on None None (Some z) p q = absurd q
kept_on None (Some y) u p q = absurd p
kept_on (Some x) None u p q = absurd p
kept_on (Some x) (Some y) None p q = absurd q
kept_on (Some x) (Some y) (Some z) p q = q ∙ p

pub file_on : (s t : Option Stored) (file : Bytes) → Told s t (λ a b. b ≡ a) → HasFile s file → HasFile t file
file_on None t file p h = absurd h
file_on (Some x) None file p h = absurd p
file_on (Some x) (Some y) file p h = ap (λ (z : Stored). z.file) p ∙ h

pub none_on : (s t : Option Stored) → Told s t (λ a b. b ≡ a) → HasNone s → HasNone t
none_on None None p h = tt
none_on None (Some y) p h = absurd p
none_on (Some x) None p h = tt
none_on (Some x) (Some y) p h = ap (λ (z : Stored). z.file) p ∙ h

pub cause_on : (fault : LoadFault) (before mid now : ℕ) → StillCounts before mid → HasCause fault mid now → HasCause fault before now
cause_on (faults.ReadFault at) before mid now le h = omega arith
cause_on faults.BadMagic before mid now le h = tt
cause_on faults.BadVersion before mid now le h = tt
cause_on (faults.Truncated at) before mid now le h = tt
cause_on (faults.BadLength at) before mid now le h = tt
cause_on (faults.Unsupported code at) before mid now le h = tt
cause_on (faults.UnknownType code at) before mid now le h = tt
cause_on (faults.BadPart kind at) before mid now le h = tt
cause_on (faults.Duplicate kind at) before mid now le h = tt
cause_on (faults.BadChecksum stored computed at) before mid now le h = tt
cause_on faults.NoMemory before mid now le h = tt

pub goes_none : (s : Option Stored) (n : ℕ) (stage : Stage) → Goes s s n n stage stage
goes_none s n stage = record { kept = kept_none s; rises = omega arith; runs = omega arith; missing = λ e. inl e }

pub goes_on : {s t u : Option Stored} {before mid now : ℕ} {old middle new : Stage} → Goes s t before mid old middle → Goes t u mid now middle new → Goes s u before now old new
goes_on {s} {t} {u} p q = record {
  kept = kept_on s t u p.kept q.kept;
  rises = let a = p.rises in let b = q.rises in omega (arith, a, b);
  runs = let a = p.runs in let b = q.runs in omega (arith, a, b);
  missing = λ e. elim (q.missing e) [
    | inl e' ↦ elim (p.missing e') [ inl e'' ↦ inl e'' | inr none ↦ inr (none_on t u q.kept none) ]
    | inr none ↦ inr none
  ];
}

-- ---- faults

pub halts_as : (S T : LoadFault → Type 0) (file : Bytes) (fault : LoadFault) → ((f : LoadFault) → S f → T f) → Halts S file fault → Halts T file fault
halts_as S T file (faults.ReadFault at) k h = tt
halts_as S T file faults.NoMemory k h = tt
halts_as S T file (faults.Truncated at) k (inl h) = inl (k (faults.Truncated at) h)
halts_as S T file (faults.Truncated at) k (inr far) = inr far
halts_as S T file faults.BadMagic k h = k faults.BadMagic h
halts_as S T file faults.BadVersion k h = k faults.BadVersion h
halts_as S T file (faults.BadLength at) k h = k (faults.BadLength at) h
halts_as S T file (faults.Unsupported code at) k h = k (faults.Unsupported code at) h
halts_as S T file (faults.UnknownType code at) k h = k (faults.UnknownType code at) h
halts_as S T file (faults.BadPart kind at) k h = k (faults.BadPart kind at) h
halts_as S T file (faults.Duplicate kind at) k h = k (faults.Duplicate kind at) h
halts_as S T file (faults.BadChecksum stored computed at) k h = k (faults.BadChecksum stored computed at) h

pub halts_in : (T : LoadFault → Type 0) (file : Bytes) (fault : LoadFault) → T fault → Halts T file fault
halts_in T file (faults.ReadFault at) h = tt
halts_in T file faults.NoMemory h = tt
halts_in T file (faults.Truncated at) h = inl h
halts_in T file faults.BadMagic h = h
halts_in T file faults.BadVersion h = h
halts_in T file (faults.BadLength at) h = h
halts_in T file (faults.Unsupported code at) h = h
halts_in T file (faults.UnknownType code at) h = h
halts_in T file (faults.BadPart kind at) h = h
halts_in T file (faults.Duplicate kind at) h = h
halts_in T file (faults.BadChecksum stored computed at) h = h

-- what `?` returns
pub err_is : {A : Type 0} (r : Result A LoadFault) (fault : LoadFault) → IsErrAnd r (λ y. y ≡ fault) → r ≡ Err fault
err_is r fault h = let p : (y : LoadFault) × (r ≡ Err y) × (y ≡ fault) = err_from_is_err_and r h in p.1 ∙ ap Err p.2

-- ---- forms

pub whole_join : {A B C : Type 0} {P : Bytes → A → Type 0} {Q : Bytes → B → Type 0} {a : A} {b : B} {file taken ahead : Bytes} {middle new : Stage} (R : Bytes → C → Type 0) (c : C)
    (w : Whole P a file taken ahead middle) (v : Whole Q b file (taken ++ w.form) w.behind new) → R (w.form ++ v.form) c → Whole R c file taken ahead new
whole_join {file = file} {taken = taken} {new = new} R c w v r = record {
  form = w.form ++ v.form;
  behind = v.behind;
  form_is = r;
  front = w.front ∙ ap (λ z. w.form ++ z) v.front ∙ sym (append_assoc w.form v.form v.behind);
  at = subst (λ z. IsAt file z v.behind new) (append_assoc taken w.form v.form) v.at;
}

pub whole_as : {A C : Type 0} {P : Bytes → A → Type 0} {a : A} {file taken ahead : Bytes} {new : Stage} (R : Bytes → C → Type 0) (c : C) (w : Whole P a file taken ahead new) → R w.form c → Whole R c file taken ahead new
whole_as R c w r = record { form = w.form; behind = w.behind; form_is = r; front = w.front; at = w.at }

-- nothing is taken
pub whole_none : {C : Type 0} (R : Bytes → C → Type 0) (c : C) (file taken ahead : Bytes) (new : Stage) → R [] c → IsAt file taken ahead new → Whole R c file taken ahead new
whole_none R c file taken ahead new r at = record { form = []; behind = ahead; form_is = r; front = refl; at = subst (λ z. IsAt file z ahead new) (sym (append-nil taken)) at }

-- ---- where the disk tells the file

-- how a fault at a later place is one of the whole
abbrev pub Lifts : {A : Type 0} → (Bytes → A → Type 0) → A → Stops → Stops → Stage → Type 0
Lifts {A} P a S T old =
    (size at : ℕ) (rest form behind : Bytes) (fault : LoadFault) → old.cursor.place ≡ place_of at → P form a → rest ≡ form ++ behind → S size (at + length form) behind fault → T size at rest fault

-- how a fault behind a form is one of the whole
abbrev pub Faults : {A : Type 0} → (Bytes → A → Type 0) → A → LoadFault → Stops → Stage → Type 0
Faults {A} P a fault T old = (size at : ℕ) (rest form behind : Bytes) → old.cursor.place ≡ place_of at → P form a → rest ≡ form ++ behind → T size at rest fault

pub tells_join : {A B C : Type 0} {P : Bytes → A → Type 0} {Q : Bytes → B → Type 0} {S S' : Stops} {a : A} {b : B} {s t : Option Stored} {old middle new : Stage} (R : Bytes → C → Type 0) (T : Stops) (c : C)
    → Told s t (λ x y. y ≡ x) → Tells P S (Ok a) s old middle → Tells Q S' (Ok b) t middle new → ((form more : Bytes) → P form a → Q more b → R (form ++ more) c) → Tells R T (Ok c) s old new
tells_join {P = P} {Q = Q} {a = a} {b = b} {s = s} {t = t} {middle = middle} {new = new} R T c kept p q r = record {
  is = λ file taken ahead has at.
      let w : Whole P a file taken ahead middle = p.is file taken ahead has at in
      let v : Whole Q b file (taken ++ w.form) w.behind new = q.is file (taken ++ w.form) w.behind (file_on s t file kept has) w.at in
      whole_join R c w v (r w.form v.form w.form_is v.form_is);
}

pub tells_as : {A C : Type 0} {P : Bytes → A → Type 0} {S : Stops} {a : A} {s : Option Stored} {old new : Stage} (R : Bytes → C → Type 0) (T : Stops) (c : C)
    → Tells P S (Ok a) s old new → ((form : Bytes) → P form a → R form c) → Tells R T (Ok c) s old new
tells_as {P = P} {a = a} {new = new} R T c p r = record {
  is = λ file taken ahead has at.
      let w : Whole P a file taken ahead new = p.is file taken ahead has at in
      whole_as R c w (r w.form w.form_is);
}

-- the later call stops, where what it needs may rest on what was read before
pub tells_stops : {A B C : Type 0} {P : Bytes → A → Type 0} {Q : Bytes → B → Type 0} {S S' : Stops} {a : A} {fault : LoadFault} {s t : Option Stored} {old middle new : Stage} (R : Bytes → C → Type 0) (T : Stops)
    → Told s t (λ x y. y ≡ x) → Tells P S (Ok a) s old middle → Tells Q S' (Err fault) t middle new → Lifts P a S' T old → Tells R T (Err fault) s old new
tells_stops {P = P} {S' = S'} {a = a} {fault = fault} {s = s} {t = t} {middle = middle} R T kept p q lift = record {
  is = λ file taken ahead has at.
      let w : Whole P a file taken ahead middle = p.is file taken ahead has at in
      halts_as (S' (length file) (length (taken ++ w.form)) w.behind) (T (length file) (length taken) ahead) file fault
      (λ f h. lift (length file) (length taken) ahead w.form w.behind f at.place w.form_is w.front (subst (λ n. S' (length file) n w.behind f) (length-append taken w.form) h))
      (q.is file (taken ++ w.form) w.behind (file_on s t file kept has) w.at);
}

pub tells_stop : {A C : Type 0} {P : Bytes → A → Type 0} {S : Stops} {fault : LoadFault} {s : Option Stored} {old new : Stage} (R : Bytes → C → Type 0) (T : Stops)
    → Tells P S (Err fault) s old new → ((size at : ℕ) (rest : Bytes) (f : LoadFault) → old.cursor.place ≡ place_of at → S size at rest f → T size at rest f) → Tells R T (Err fault) s old new
tells_stop {S = S} {fault = fault} R T p lift = record {
  is = λ file taken ahead has at.
      halts_as (S (length file) (length taken) ahead) (T (length file) (length taken) ahead) file fault (λ f h. lift (length file) (length taken) ahead f at.place h) (p.is file taken ahead has at);
}

pub tells_refuse : {A C : Type 0} {P : Bytes → A → Type 0} {S : Stops} {a : A} {s : Option Stored} {old new : Stage} (R : Bytes → C → Type 0) (T : Stops) (fault : LoadFault)
    → Tells P S (Ok a) s old new → Faults P a fault T old → Tells R T (Err fault) s old new
tells_refuse {P = P} {a = a} {new = new} R T fault p is = record {
  is = λ file taken ahead has at.
      let w : Whole P a file taken ahead new = p.is file taken ahead has at in
      halts_in (T (length file) (length taken) ahead) file fault (is (length file) (length taken) ahead w.form w.behind at.place w.form_is w.front);
}

pub tells_no_memory : {C : Type 0} (R : Bytes → C → Type 0) (T : Stops) (s : Option Stored) (old new : Stage) → Tells R T (Err faults.NoMemory) s old new
tells_no_memory R T s old new = record { is = λ file taken ahead has at. tt }

-- ---- whole calls

module _ {C : Type 0} (R : Bytes → C → Type 0) (T : Stops) where
  pub reads_none : {s : Option Stored} {n : ℕ} {stage : Stage} (c : C) → R [] c → Reads R T (Ok c) s s n n stage stage
  reads_none {s} {n} {stage} c r = record {
    goes = goes_none s n stage;
    caused = tt;
    tells = record { is = λ file taken ahead has at. whole_none R c file taken ahead stage r at };
  }

  pub reads_as : {A : Type 0} {P : Bytes → A → Type 0} {S : Stops} {a : A} {s t : Option Stored} {before now : ℕ} {old new : Stage} (c : C)
      → Reads P S (Ok a) s t before now old new → ((form : Bytes) → P form a → R form c) → Reads R T (Ok c) s t before now old new
  reads_as c p r = record { goes = p.goes; caused = tt; tells = tells_as R T c p.tells r }

  pub reads_join : {A B : Type 0} {P : Bytes → A → Type 0} {Q : Bytes → B → Type 0} {S S' : Stops} {a : A} {b : B} {s t u : Option Stored} {before mid now : ℕ} {old middle new : Stage} (c : C)
      → Reads P S (Ok a) s t before mid old middle → Reads Q S' (Ok b) t u mid now middle new → ((form more : Bytes) → P form a → Q more b → R (form ++ more) c) → Reads R T (Ok c) s u before now old new
  reads_join c p q r = record { goes = goes_on p.goes q.goes; caused = tt; tells = tells_join R T c p.goes.kept p.tells q.tells r }

  pub reads_stops : {A B : Type 0} {P : Bytes → A → Type 0} {Q : Bytes → B → Type 0} {S S' : Stops} {a : A} {fault : LoadFault} {s t u : Option Stored} {before mid now : ℕ} {old middle new : Stage} (r : Result C LoadFault)
      → r ≡ Err fault → Reads P S (Ok a) s t before mid old middle → Reads Q S' (Err fault) t u mid now middle new → Lifts P a S' T old → Reads R T r s u before now old new
  reads_stops {fault = fault} {s = s} {u = u} {before = before} {mid = mid} {now = now} {old = old} {new = new} r e p q lift =
      subst (λ x. Reads R T x s u before now old new) (sym e) (record {
        goes = goes_on p.goes q.goes;
        caused = cause_on fault before mid now p.goes.rises q.caused;
        tells = tells_stops R T p.goes.kept p.tells q.tells lift;
      })

  pub reads_stop : {A : Type 0} {P : Bytes → A → Type 0} {S : Stops} {fault : LoadFault} {s t : Option Stored} {before now : ℕ} {old new : Stage} (r : Result C LoadFault)
      → r ≡ Err fault → Reads P S (Err fault) s t before now old new → ((size at : ℕ) (rest : Bytes) (f : LoadFault) → old.cursor.place ≡ place_of at → S size at rest f → T size at rest f)
      → Reads R T r s t before now old new
  reads_stop {s = s} {t = t} {before = before} {now = now} {old = old} {new = new} r e p lift =
      subst (λ x. Reads R T x s t before now old new) (sym e) (record { goes = p.goes; caused = p.caused; tells = tells_stop R T p.tells lift })

  pub reads_refuse : {A : Type 0} {P : Bytes → A → Type 0} {S : Stops} {a : A} {s t : Option Stored} {before now : ℕ} {old new : Stage} (fault : LoadFault)
      → HasCause fault before now → Reads P S (Ok a) s t before now old new → Faults P a fault T old → Reads R T (Err fault) s t before now old new
  reads_refuse fault caused p is = record { goes = p.goes; caused = caused; tells = tells_refuse R T fault p.tells is }

  pub reads_no_memory : {s t : Option Stored} {before now : ℕ} {old new : Stage} → Goes s t before now old new → Reads R T (Err faults.NoMemory) s t before now old new
  reads_no_memory {s} {old = old} {new = new} goes = record { goes = goes; caused = tt; tells = tells_no_memory R T s old new }
