-- What a read of the disk makes of how far reading has come.
use Rattle.std.proofs.Common.{◌≡◌, ℕ, zero, suc, ◌+◌, ◌-◌, ◌^◌, ◌<◌, ◌≤◌, inl, inr, Bool, true, false, cond, [], ◌∷◌, ◌++◌, length, take, drop, refl, sym, ap, subst, ◌∙◌, arith, append_assoc, append-nil, length-append, take-append-drop}
use Rattle.std.specs.Prelude.{Option, Some, None, Ok, Err}
use Rattle.std.proofs.lemmas.List.{drop-drop, length-take}
use Rattle.df_model.specs.Values.{Bytes}
use Rattle.df_outside.specs.Disks.{Stored, Told, Holds, IsPast}
use Rattle.df_rdbcore.specs.Reading.{Stand, place_of}
use Rattle.df_rdbcore.specs.declared.fault.LoadFault.{LoadFault}
use Rattle.df_rdbcore.specs.declared.fault.LoadFault.TheVariants as faults
use Rattle.df_rdbload.specs.Sources.{Stage, IsAt, HasFile, WhereTold, IsBeyond, StillCounts, HasCause, Halts, room, reads_left, Grows, Stays, KeepFails, IsTooMuch, Reading}
use Rattle.df_rdbload.proofs.Steps.{goes_none}

-- ---- what the disk tells

pub told_where : (Q : Option Bytes → Type 0) (s t : Option Stored) → Told s t (λ a b. (b ≡ a) × Q a.file) → WhereTold Q s
told_where Q None None p = tt
told_where Q None (Some y) p = absurd p
told_where Q (Some x) None p = absurd p
told_where Q (Some x) (Some y) p = p.1

pub told_kept : (Q : Option Bytes → Type 0) (s t : Option Stored) → Told s t (λ a b. (b ≡ a) × Q a.file) → Told s t (λ a b. b ≡ a)
told_kept Q None None p = tt
told_kept Q None (Some y) p = absurd p
told_kept Q (Some x) None p = absurd p
told_kept Q (Some x) (Some y) p = p.0

pub where_on : (Q : Option Bytes → Type 0) (s t : Option Stored) → Told s t (λ a b. b ≡ a) → WhereTold Q s → WhereTold Q t
where_on Q None None k p = tt
where_on Q None (Some y) k p = absurd k
where_on Q (Some x) None k p = tt
where_on Q (Some x) (Some y) k p = subst Q (sym (ap (λ (z : Stored). z.file) k)) p

pub where_as : (P Q : Option Bytes → Type 0) (s : Option Stored) → ((o : Option Bytes) → P o → Q o) → WhereTold P s → WhereTold Q s
where_as P Q None f p = tt
where_as P Q (Some x) f p = f x.file p

-- what is told holds of the file
pub where_of : (Q : Option Bytes → Type 0) (s : Option Stored) (file : Bytes) → HasFile s file → WhereTold Q s → Q (Some file)
where_of Q None file h p = absurd h
where_of Q (Some x) file h p = subst Q h p

held_some : (next : ℕ) (piece : Bytes) (o : Option Bytes) → Holds o next piece → (bytes : Bytes) × (o ≡ Some bytes)
held_some next piece None h = absurd h
held_some next piece (Some bytes) h = (bytes, refl)

past_some : (next : ℕ) (o : Option Bytes) → IsPast o next → (bytes : Bytes) × (o ≡ Some bytes)
past_some next None h = absurd h
past_some next (Some bytes) h = (bytes, refl)

far_some : (next : ℕ) (piece : Bytes) → 2 ^ 64 ≤ next + length piece → (o : Option Bytes) → Holds o next piece → (bytes : Bytes) × (o ≡ Some bytes) × IsBeyond bytes
far_some next piece far None h = absurd h
far_some next piece far (Some bytes) h = let end = h.0 in (bytes, refl, omega (arith, end, far))

pub too_much : (fault : LoadFault) (s : Option Stored) (next : ℕ) (piece : Bytes) → WhereTold (λ o. Holds o next piece) s → KeepFails fault (next + length piece) → IsTooMuch fault s
too_much (faults.Truncated at) s next piece h far = where_as (λ o. Holds o next piece) (λ o. (bytes : Bytes) × (o ≡ Some bytes) × IsBeyond bytes) s (far_some next piece far) h
too_much faults.NoMemory s next piece h f = tt
too_much (faults.ReadFault at) s next piece h f = tt
too_much faults.BadMagic s next piece h f = absurd f
too_much faults.BadVersion s next piece h f = absurd f
too_much (faults.BadLength at) s next piece h f = absurd f
too_much (faults.Unsupported code at) s next piece h f = absurd f
too_much (faults.UnknownType code at) s next piece h f = absurd f
too_much (faults.BadPart kind at) s next piece h f = absurd f
too_much (faults.Duplicate kind at) s next piece h f = absurd f
too_much (faults.BadChecksum stored computed at) s next piece h f = absurd f

too_much_on : (fault : LoadFault) (s t : Option Stored) → Told s t (λ a b. b ≡ a) → IsTooMuch fault s → IsTooMuch fault t
too_much_on (faults.Truncated at) s t kept f = where_on (λ o. (bytes : Bytes) × (o ≡ Some bytes) × IsBeyond bytes) s t kept f
too_much_on faults.NoMemory s t kept f = tt
too_much_on (faults.ReadFault at) s t kept f = tt
too_much_on faults.BadMagic s t kept f = absurd f
too_much_on faults.BadVersion s t kept f = absurd f
too_much_on (faults.BadLength at) s t kept f = absurd f
too_much_on (faults.Unsupported code at) s t kept f = absurd f
too_much_on (faults.UnknownType code at) s t kept f = absurd f
too_much_on (faults.BadPart kind at) s t kept f = absurd f
too_much_on (faults.Duplicate kind at) s t kept f = absurd f
too_much_on (faults.BadChecksum sum computed at) s t kept f = absurd f

-- a fault of `keep` is none of the disk
pub keep_caused : (fault : LoadFault) (n m next : ℕ) → KeepFails fault next → HasCause fault n m
keep_caused (faults.Truncated at) n m next f = tt
keep_caused faults.NoMemory n m next f = tt
keep_caused (faults.ReadFault at) n m next f = absurd f
keep_caused faults.BadMagic n m next f = tt
keep_caused faults.BadVersion n m next f = tt
keep_caused (faults.BadLength at) n m next f = tt
keep_caused (faults.Unsupported code at) n m next f = tt
keep_caused (faults.UnknownType code at) n m next f = tt
keep_caused (faults.BadPart kind at) n m next f = tt
keep_caused (faults.Duplicate kind at) n m next f = tt
keep_caused (faults.BadChecksum stored computed at) n m next f = tt

-- ---- lists

drop_all : (n : ℕ) (bytes : Bytes) → length bytes ≤ n → drop n bytes ≡ []
drop_all zero [] h = refl
drop_all zero (b ∷ bytes) h = absurd (omega arith)
drop_all (suc n) [] h = refl
drop_all (suc n) (b ∷ bytes) h = drop_all n bytes (omega arith)

-- ---- reading on

left_on : (piece file rest rest' : Bytes) (next next' : ℕ) → Holds (Some file) next piece → rest' ≡ rest ++ piece → next' ≡ next + length piece → rest' ++ drop next' file ≡ rest ++ drop next file
left_on piece file rest rest' next next' holds e n =
    let seam : piece ++ drop (next + length piece) file ≡ drop next file =
    ap (λ z. z ++ drop (next + length piece) file) holds.1 ∙ ap (λ z. take (length piece) (drop next file) ++ z) (sym (drop-drop (length piece) next file)) ∙ take-append-drop (length piece) (drop next file) in
    ap (λ z. z ++ drop next' file) e ∙ ap (λ k. (rest ++ piece) ++ drop k file) n ∙ append_assoc rest piece (drop (next + length piece) file) ∙ ap (λ z. rest ++ z) seam

pub false_true : {A : Type 0} (b : Bool) → b ≡ false → b ≡ true → A
false_true b p q = cc

pub more_kept : (piece : Bytes) (s t : Option Stored) (n m : ℕ) (old new : Stage) → Told s t (λ a b. b ≡ a) → StillCounts n m → old.ended ≡ false → new.ended ≡ old.ended → new.missing ≡ old.missing
    → Grows piece s old.cursor new.cursor old.next new.next → Reading (Ok true) s t n m old new
more_kept piece s t n m old new kept rises going ended missing g = record {
  goes = record { kept = kept; rises = rises; runs = less; missing = λ e. inl (sym missing ∙ e) };
  caused = tt;
  left = subst (λ b. (2 ^ 64 - new.next) + cond b 0 1 < reads_left old) (sym ended) fewer;
  finds = inr (inr (where_on (λ o. (bytes : Bytes) × (o ≡ Some bytes)) s t kept (where_as (λ o. Holds o old.next piece) (λ o. (bytes : Bytes) × (o ≡ Some bytes)) s (held_some old.next piece) g.there)));
  tells = λ file taken ahead has at.
      let holds : Holds (Some file) old.next piece = where_of (λ o. Holds o old.next piece) s file has g.there in
      record {
        whole = at.whole;
        left = left_on piece file old.cursor.rest new.cursor.rest old.next new.next holds g.rest g.next_is ∙ at.left;
        within = let end = holds.0 in let next_is = g.next_is in omega (arith, end, next_is);
        place = g.place ∙ at.place;
        sum = g.sum ∙ at.sum;
        end = λ e. false_true new.ended (ended ∙ going) e;
      };
}
  where
    less : room new ≤ room old
    less = let long = ap length g.rest in let both = length-append old.cursor.rest piece in let next_is = g.next_is in let fits = g.fits in omega (arith, long, both, next_is, fits)

    fewer : (2 ^ 64 - new.next) + cond old.ended 0 1 < (2 ^ 64 - old.next) + cond old.ended 0 1
    fewer = let some = g.some in let next_is = g.next_is in let fits = g.fits in omega (arith, some, next_is, fits)

-- the file has ended, and nothing is added
ended_at : (file taken ahead : Bytes) (old new : Stage) → new.cursor.rest ≡ old.cursor.rest → new.cursor.place ≡ old.cursor.place → new.cursor.sum ≡ old.cursor.sum → new.next ≡ old.next → new.next < 2 ^ 64 → length file ≤ new.next
    → IsAt file taken ahead old → IsAt file taken ahead new × (new.cursor.rest ≡ ahead) × (new.next ≡ place_of (length file))
ended_at file taken ahead old new rest place sum next fits past at =
    let left : new.cursor.rest ++ drop new.next file ≡ ahead = ap (λ z. z ++ drop new.next file) rest ∙ ap (λ k. old.cursor.rest ++ drop k file) next ∙ at.left in
    let within : new.next ≤ length file = subst (λ k. k ≤ length file) (sym next) at.within in (
      record { whole = at.whole; left = left; within = within; place = place ∙ at.place; sum = sum ∙ at.sum; end = λ e. past },
      sym (append-nil new.cursor.rest) ∙ ap (λ z. new.cursor.rest ++ z) (sym (drop_all new.next file past)) ∙ left,
      omega arith,
    )

same_room : (old new : Stage) → new.cursor.rest ≡ old.cursor.rest → new.next ≡ old.next → room new ≤ room old
same_room old new e n = let long = ap length e in omega (arith, long, n)

pub more_end : (s t : Option Stored) (n m : ℕ) (old new : Stage) → Told s t (λ a b. b ≡ a) → StillCounts n m → new.missing ≡ old.missing → new.next < 2 ^ 64
    → Stays old.cursor new.cursor old.next new.next → WhereTold (λ o. IsPast o old.next) s → Reading (Ok false) s t n m old new
more_end s t n m old new kept rises missing fits g past = record {
  goes = record { kept = kept; rises = rises; runs = same_room old new g.rest g.next_is; missing = λ e. inl (sym missing ∙ e) };
  caused = tt;
  left = (g.rest, g.place);
  finds = inr (inr (where_on (λ o. (bytes : Bytes) × (o ≡ Some bytes)) s t kept (where_as (λ o. IsPast o old.next) (λ o. (bytes : Bytes) × (o ≡ Some bytes)) s (past_some old.next) past)));
  tells = λ file taken ahead has at.
      let here : length file ≤ old.next = where_of (λ o. IsPast o old.next) s file has past in
      ended_at file taken ahead old new g.rest g.place g.sum g.next_is fits (subst (λ k. length file ≤ k) (sym g.next_is) here) at;
}

no_file : (file : Bytes) → Some file ≡ None → ⊥
no_file file e = cc

pub more_missing : (s t : Option Stored) (n m : ℕ) (old new : Stage) → Told s t (λ a b. b ≡ a) → StillCounts n m → new.missing ≡ true
    → Stays old.cursor new.cursor old.next new.next → WhereTold (λ o. o ≡ None) s → Reading (Ok false) s t n m old new
more_missing s t n m old new kept rises missing g none = record {
  goes = record { kept = kept; rises = rises; runs = same_room old new g.rest g.next_is; missing = λ e. inr (where_on (λ o. o ≡ None) s t kept none) };
  caused = tt;
  left = (g.rest, g.place);
  finds = inr (inl missing);
  tells = λ file taken ahead has at. absurd (no_file file (where_of (λ o. o ≡ None) s file has none));
}

pub more_ended : (s : Option Stored) (n : ℕ) (old : Stage) → old.ended ≡ true → old.next < 2 ^ 64 → Reading (Ok false) s s n n old old
more_ended s n old ended fits = record {
  goes = goes_none s n old;
  caused = tt;
  left = (refl, refl);
  finds = inl ended;
  tells = λ file taken ahead has at. ended_at file taken ahead old old refl refl refl refl fits (at.end ended) at;
}

same_file : (file bytes : Bytes) → Some file ≡ Some bytes → file ≡ bytes
same_file file bytes e = cc

fails_at : (fault : LoadFault) (s : Option Stored) (file : Bytes) → HasFile s file → IsTooMuch fault s → Halts (λ f. ⊥) file fault
fails_at (faults.Truncated at) s file has f =
    let far : (bytes : Bytes) × (Some file ≡ Some bytes) × IsBeyond bytes = where_of (λ o. (bytes : Bytes) × (o ≡ Some bytes) × IsBeyond bytes) s file has f in
    inr (subst IsBeyond (sym (same_file file far.0 far.1)) far.2)
fails_at faults.NoMemory s file has f = tt
fails_at (faults.ReadFault at) s file has f = tt
fails_at faults.BadMagic s file has f = absurd f
fails_at faults.BadVersion s file has f = absurd f
fails_at (faults.BadLength at) s file has f = absurd f
fails_at (faults.Unsupported code at) s file has f = absurd f
fails_at (faults.UnknownType code at) s file has f = absurd f
fails_at (faults.BadPart kind at) s file has f = absurd f
fails_at (faults.Duplicate kind at) s file has f = absurd f
fails_at (faults.BadChecksum stored computed at) s file has f = absurd f

pub more_fails : (fault : LoadFault) (s t : Option Stored) (n m : ℕ) (old new : Stage) → Told s t (λ a b. b ≡ a) → StillCounts n m → HasCause fault n m → new.missing ≡ old.missing
    → Stays old.cursor new.cursor old.next new.next → IsTooMuch fault s → Reading (Err fault) s t n m old new
more_fails fault s t n m old new kept rises caused missing g f = record {
  goes = record { kept = kept; rises = rises; runs = same_room old new g.rest g.next_is; missing = λ e. inl (sym missing ∙ e) };
  caused = caused;
  left = tt;
  finds = too_much_on fault s t kept f;
  tells = λ file taken ahead has at. fails_at fault s file has f;
}

-- ---- a read of the disk

abbrev pub file_none : Option Bytes → Type 0
file_none o = o ≡ None

pub stays_none : (s : Stand) (next : ℕ) → Stays s s next next
stays_none s next = record { rest = refl; place = refl; sum = refl; next_is = refl }

pub grows : (n : ℕ) (buf : Bytes) (s t : Option Stored) (old new : Stand) (next next' : ℕ) → 0 < n → n ≤ length buf → Told s t (λ a b. (b ≡ a) × Holds a.file next (take n buf))
    → new.rest ≡ old.rest ++ take n buf → new.place ≡ old.place → new.sum ≡ old.sum → next' ≡ next + length (take n buf) → next' < 2 ^ 64 → (piece : Bytes) × Grows piece s old new next next'
grows n buf s t old new next next' some within told rest place sum next_is fits =
    let long = length-take n buf in (
      take n buf,
      record { some = omega (arith, long); there = told_where (λ o. Holds o next (take n buf)) s t told; rest = rest; place = place; sum = sum; next_is = next_is; fits = fits },
    )
