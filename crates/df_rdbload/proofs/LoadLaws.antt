-- What loading came to, from the first read to the last.
use Rattle.std.proofs.Common.{◌≡◌, ℕ, inl, inr, Bool, true, false, [], refl, sym, ap, subst, ◌∙◌, arith}
use Rattle.std.specs.Prelude.{Option, Some, None, Result, Ok, Err, ◌⊎◌}
use Rattle.std.specs.HashMap.{HashMap}
use Rattle.df_model.specs.Values.{Bytes}
use Rattle.df_outside.specs.Disks.{Stored, Told}
use Rattle.df_values.specs.declared.value.Value.{Value}
use Rattle.df_rdbcore.specs.Files.{Spells}
use Rattle.df_rdbcore.specs.declared.fault.LoadFault.{LoadFault}
use Rattle.df_rdbcore.specs.declared.fault.LoadFault.TheVariants as faults
use Rattle.df_rdbload.specs.FileStops.{FileStops}
use Rattle.df_rdbload.specs.Sources.{Stage, start, IsAt, HasFile, HasSome, HasNone, IsBeyond, HasCause, Halts, ReadsOn, Reading}
use Rattle.df_rdbload.specs.Entries.{keyspace_in, FileRead, ReadsFile}
use Rattle.df_rdbload.specs.Loads.{OfFile, Refused}
use Rattle.df_rdbload.proofs.Steps.{cause_on}
use Rattle.df_rdbload.proofs.DiskLaws.{where_on, where_as, false_true}

of_file : (P : Bytes → Type 0) (t : Option Stored) → HasSome t → ((file : Bytes) → HasFile t file → P file) → OfFile P t
of_file P None some f = tt
of_file P (Some x) some f = (some.0, some.1, f some.0 some.1)

refused_by : (fault : LoadFault) (t : Option Stored) (n m : ℕ) → HasSome t → HasCause fault n m → ((file : Bytes) → HasFile t file → Halts (FileStops file) file fault) → Refused fault t n m
refused_by (faults.ReadFault at) t n m some cause f = cause
refused_by faults.NoMemory t n m some cause f = tt
refused_by faults.BadMagic t n m some cause f = of_file (λ bytes. FileStops bytes faults.BadMagic) t some f
refused_by faults.BadVersion t n m some cause f = of_file (λ bytes. FileStops bytes faults.BadVersion) t some f
refused_by (faults.Truncated at) t n m some cause f = of_file (λ bytes. FileStops bytes (faults.Truncated at) ⊎ IsBeyond bytes) t some f
refused_by (faults.BadLength at) t n m some cause f = of_file (λ bytes. FileStops bytes (faults.BadLength at)) t some f
refused_by (faults.Unsupported code at) t n m some cause f = of_file (λ bytes. FileStops bytes (faults.Unsupported code at)) t some f
refused_by (faults.UnknownType code at) t n m some cause f = of_file (λ bytes. FileStops bytes (faults.UnknownType code at)) t some f
refused_by (faults.BadPart kind at) t n m some cause f = of_file (λ bytes. FileStops bytes (faults.BadPart kind at)) t some f
refused_by (faults.Duplicate kind at) t n m some cause f = of_file (λ bytes. FileStops bytes (faults.Duplicate kind at)) t some f
refused_by (faults.BadChecksum sum computed at) t n m some cause f = of_file (λ bytes. FileStops bytes (faults.BadChecksum sum computed at)) t some f

-- the first read failed
pub refused_first : (fault : LoadFault) (s t : Option Stored) (n m : ℕ) (old new : Stage) → Reading (Err fault) s t n m old new → Refused fault t n m
refused_first (faults.ReadFault at) s t n m old new r = r.caused
refused_first faults.NoMemory s t n m old new r = tt
refused_first (faults.Truncated at) s t n m old new r =
    where_as (λ o. (bytes : Bytes) × (o ≡ Some bytes) × IsBeyond bytes) (λ o. (bytes : Bytes) × (o ≡ Some bytes) × (FileStops bytes (faults.Truncated at) ⊎ IsBeyond bytes)) t (λ o b. (b.0, b.1, inr b.2)) r.finds
refused_first faults.BadMagic s t n m old new r = absurd r.finds
refused_first faults.BadVersion s t n m old new r = absurd r.finds
refused_first (faults.BadLength at) s t n m old new r = absurd r.finds
refused_first (faults.Unsupported code at) s t n m old new r = absurd r.finds
refused_first (faults.UnknownType code at) s t n m old new r = absurd r.finds
refused_first (faults.BadPart kind at) s t n m old new r = absurd r.finds
refused_first (faults.Duplicate kind at) s t n m old new r = absurd r.finds
refused_first (faults.BadChecksum sum computed at) s t n m old new r = absurd r.finds

at_start : (file : Bytes) → IsAt file [] file start
at_start file = record { whole = refl; left = refl; within = omega arith; place = refl; sum = refl; end = λ e. false_true false refl e }

at_read : (b : Bool) (file taken ahead : Bytes) (new : Stage) → ReadsOn (Ok b) file taken ahead new → IsAt file taken ahead new
at_read true file taken ahead new r = r
at_read false file taken ahead new r = r.0

module _ {s t : Option Stored} {n m : ℕ} {old middle : Stage} (b : Bool) (begins : old ≡ start) (first : Reading (Ok b) s t n m old middle) where
  pub none_first : middle.missing ≡ true → HasNone t
  none_first e = elim (first.goes.missing e) [ inl e' ↦ false_true old.missing (ap (λ (z : Stage). z.missing) begins) e' | inr none ↦ none ]

  some_file : middle.missing ≡ false → HasSome t
  some_file e = elim first.finds [
    | inl ended ↦ false_true old.ended (ap (λ (z : Stage). z.ended) begins) ended
    | inr here ↦ elim here [ inl missing ↦ false_true middle.missing e missing | inr some ↦ some ]
  ]

  first_at : (file : Bytes) → HasFile s file → IsAt file [] file middle
  first_at file has = at_read b file [] file middle (first.tells file [] file has (subst (IsAt file [] file) (sym begins) (at_start file)))

  back_on : (u v : Option Stored) (file : Bytes) → Told u v (λ x y. y ≡ x) → HasFile v file → HasFile u file
  back_on None None file k h = h
  back_on None (Some y) file k h = absurd k
  back_on (Some x) None file k h = absurd k
  back_on (Some x) (Some y) file k h = sym (ap (λ (z : Stored). z.file) k) ∙ h

  module _ {S : Type 0} {u : Option Stored} {k : ℕ} {new : Stage} where
    pub none_later : (r : Result (HashMap Bytes Value S) LoadFault) → ReadsFile r t u m k middle new → middle.missing ≡ false → new.missing ≡ true → HasNone u
    none_later r p e e' = elim (p.goes.missing e') [ inl h ↦ false_true middle.missing e h | inr none ↦ none ]

    some_later : (r : Result (HashMap Bytes Value S) LoadFault) → ReadsFile r t u m k middle new → middle.missing ≡ false → HasSome u
    some_later r p e = where_on (λ o. (bytes : Bytes) × (o ≡ Some bytes)) t u p.goes.kept (some_file e)

    file_of : (r : Result (HashMap Bytes Value S) LoadFault) (p : ReadsFile r t u m k middle new) (file : Bytes) → HasFile u file → FileRead r file
    file_of r p file has = let at_t = back_on t u file p.goes.kept has in p.tells file at_t (first_at file (back_on s t file first.goes.kept at_t))

    pub keys_loaded : (keys : HashMap Bytes Value S) → ReadsFile (Ok keys) t u m k middle new → middle.missing ≡ false → OfFile (λ bytes. Spells bytes (keyspace_in keys.entries)) u
    keys_loaded keys p e = of_file (λ bytes. Spells bytes (keyspace_in keys.entries)) u (some_later (Ok keys) p e) (file_of (Ok keys) p)

    pub refused_later : (fault : LoadFault) → ReadsFile {S = S} (Err fault) t u m k middle new → middle.missing ≡ false → Refused fault u n k
    refused_later fault p e = refused_by fault u n k (some_later (Err fault) p e) (cause_on fault n m k first.goes.rises p.caused) (file_of (Err fault) p)
