-- The sum at a file's end.
use Rattle.std.proofs.Common.{◌≡◌, ℕ, ◌+◌, ◌<◌, ◌^◌, true, false, [], ◌++◌, length, take, sym, ap, subst, ◌∙◌, arith, append-nil, length-append}
use Rattle.std.specs.Prelude.{Option, Result, Ok, Err, ◌⊎◌}
use Rattle.std.specs.Int.{w64, from_le_bytes, to_le_bytes}
use Rattle.std.proofs.lemmas.List.{take_more_set, length-set, length-take}
use Rattle.std.proofs.Math.ListN.{set}
use Rattle.std.proofs.Math.Seq.{take-append_seam}
use Rattle.df_model.specs.Values.{Bytes}
use Rattle.df_outside.specs.Disks.{Stored}
use Rattle.df_rdbcore.specs.Reading.{place_of}
use Rattle.df_rdbcore.specs.declared.fault.LoadFault.{LoadFault}
use Rattle.df_rdbcore.specs.declared.fault.LoadFault.TheVariants as faults
use Rattle.df_rdbcore.specs.declared.fault.PartFault.TheVariants as part
use Rattle.df_rdbload.specs.FileStops.{SumStops}
use Rattle.df_rdbload.specs.Sources.{Stage, IsAt, HasFile, Whole, ByteStops, IsByte, Reads, SeesEnd}
use Rattle.df_rdbload.specs.Entries.{AreEight, EightStop, Ended}
use Rattle.df_rdbload.proofs.Steps.{Lifts, goes_on, cause_on, file_on, halts_as}
use Rattle.std.proofs.lemmas.Nat.{from_le_bytes-to_le_bytes_8}
use Rattle.df_rdbload.proofs.HeadLaws.{take_whole}

-- ---- eight bytes

abbrev pub FirstOf : ℕ → Bytes → Bytes → Type 0
FirstOf i form bytes = (form ≡ take i bytes) × (length bytes ≡ 8)

pub first_more : (i b : ℕ) (form more bytes : Bytes) → i < 8 → FirstOf i form bytes → IsByte more b → FirstOf (i + 1) (form ++ more) (set bytes i b)
first_more i b form more bytes lt f p =
    let inside : i < length bytes = subst (λ n. i < n) (sym f.1) lt in
    (ap (λ z. z ++ more) f.0 ∙ ap (λ z. take i bytes ++ z) p ∙ sym (take_more_set bytes i b inside), length-set bytes i b ∙ f.1)

pub eight_stops : (i : ℕ) (bytes : Bytes) (old : Stage) → i < 8 → Lifts (FirstOf i) bytes ByteStops EightStop old
eight_stops i bytes old lt size at rest form behind fault place is whole h =
    let all : rest ≡ take i bytes = whole ∙ ap (λ z. form ++ z) h.0 ∙ append-nil form ∙ is.0 in
    let long = ap length all in
    let part_long = length-take i bytes in
    (omega (arith, long, part_long), h.1)

-- ---- the sum, and nothing behind it

take_seam : (form behind : Bytes) (n : ℕ) → length form ≡ n → take n (form ++ behind) ≡ form
take_seam form behind n e = subst (λ k. take k (form ++ behind) ≡ form) e (take-append_seam form behind)

whole_back : (stored : ℕ) (bytes : Bytes) → to_le_bytes w64 stored ≡ take 8 bytes → length bytes ≡ 8 → to_le_bytes w64 stored ≡ bytes
whole_back stored bytes back long = back ∙ take_whole 8 bytes (omega (arith, long))

number_is : (stored : ℕ) (bytes : Bytes) → stored < 2 ^ 64 → to_le_bytes w64 stored ≡ take 8 bytes → length bytes ≡ 8 → stored ≡ from_le_bytes w64 bytes
number_is stored bytes fits back long = sym (from_le_bytes-to_le_bytes_8 stored fits) ∙ ap (from_le_bytes w64) (whole_back stored bytes back long)

module _ {s t : Option Stored} {n m : ℕ} {old middle : Stage} (bytes : Bytes) (eight : Reads AreEight EightStop (Ok bytes) s t n m old middle) where
  -- the bytes behind the place where the sum is
  eight_at : (file taken ahead : Bytes) → HasFile s file → IsAt file taken ahead old → Whole AreEight bytes file taken ahead middle
  eight_at file taken ahead has at = eight.tells.is file taken ahead has at

  pub sum_wrong : (stored computed at : ℕ) → stored < 2 ^ 64 → to_le_bytes w64 stored ≡ take 8 bytes → (stored ≡ 0 → ⊥) → (stored ≡ computed → ⊥) → computed ≡ old.cursor.sum → at ≡ old.cursor.place
      → Ended (Err (faults.BadChecksum stored computed at)) s t n m old middle
  sum_wrong stored computed at fits back no0 isnt c p = record {
    goes = eight.goes;
    caused = tt;
    tells = λ file taken ahead has here.
        let w : Whole AreEight bytes file taken ahead middle = eight_at file taken ahead has here in
        let long : length w.form ≡ 8 = ap length w.form_is.0 ∙ w.form_is.1 in
        let both = ap length w.front in
        let apart = length-append w.form w.behind in
        let eight_there : take 8 ahead ≡ bytes = ap (take 8) w.front ∙ take_seam w.form w.behind 8 long ∙ w.form_is.0 in
        let place : faults.BadChecksum stored computed at ≡ faults.BadChecksum stored computed (place_of (length taken)) = ap (λ k. faults.BadChecksum stored computed k) (p ∙ here.place) in
        subst (λ k. SumStops k (length file) (length taken) ahead (faults.BadChecksum stored computed at)) c
        (SumStops.Wrong stored (omega (arith, long, both, apart)) (number_is stored bytes fits back w.form_is.1 ∙ ap (from_le_bytes w64) (sym eight_there)) no0 isnt place);
  }

  module _ {u : Option Stored} {k : ℕ} {new : Stage} (stored : ℕ) (fits : stored < 2 ^ 64) (back : to_le_bytes w64 stored ≡ take 8 bytes) (good : (stored ≡ 0) ⊎ (stored ≡ old.cursor.sum)) where
    pub end_fails : (fault : LoadFault) (r : Result (Unit {0}) LoadFault) → r ≡ Err fault → SeesEnd (Err fault) t u m k middle new → Ended r s u n k old new
    end_fails fault r e p = subst (λ x. Ended x s u n k old new) (sym e) (record {
      goes = goes_on eight.goes p.goes;
      caused = cause_on fault n m k eight.goes.rises p.caused;
      tells = λ file taken ahead has here.
          let w : Whole AreEight bytes file taken ahead middle = eight_at file taken ahead has here in
          halts_as (λ f. ⊥) (SumStops old.cursor.sum (length file) (length taken) ahead) file fault (λ f h. absurd h) (p.tells file (taken ++ w.form) w.behind (file_on s t file eight.goes.kept has) w.at);
    })

    pub end_after : (at : ℕ) → at ≡ middle.cursor.place → SeesEnd (Ok false) t u m k middle new → Ended (Err (faults.BadPart part.After at)) s u n k old new
    end_after at q p = record {
      goes = goes_on eight.goes p.goes;
      caused = tt;
      tells = λ file taken ahead has here.
          let w : Whole AreEight bytes file taken ahead middle = eight_at file taken ahead has here in
          let long : length w.form ≡ 8 = ap length w.form_is.0 ∙ w.form_is.1 in
          let both = ap length w.front in
          let apart = length-append w.form w.behind in
          let more : 0 < length w.behind = p.tells file (taken ++ w.form) w.behind (file_on s t file eight.goes.kept has) w.at in
          let eight_there : take 8 ahead ≡ bytes = ap (take 8) w.front ∙ take_seam w.form w.behind 8 long ∙ w.form_is.0 in
          let far : length (taken ++ w.form) ≡ length taken + 8 = length-append taken w.form ∙ ap (λ z. length taken + z) long in
          let place : faults.BadPart part.After at ≡ faults.BadPart part.After (place_of (length taken + 8)) = ap (faults.BadPart part.After) (q ∙ w.at.place ∙ ap place_of far) in
          SumStops.After stored (omega (arith, long, both, apart, more)) (number_is stored bytes fits back w.form_is.1 ∙ ap (from_le_bytes w64) (sym eight_there)) good place;
    }

    pub end_whole : SeesEnd (Ok true) t u m k middle new → Ended (Ok tt) s u n k old new
    end_whole p = record {
      goes = goes_on eight.goes p.goes;
      caused = tt;
      tells = λ file taken ahead has here.
          let w : Whole AreEight bytes file taken ahead middle = eight_at file taken ahead has here in
          let none : w.behind ≡ [] = p.tells file (taken ++ w.form) w.behind (file_on s t file eight.goes.kept has) w.at in
          (stored, good, w.front ∙ ap (λ z. w.form ++ z) none ∙ append-nil w.form ∙ w.form_is.0 ∙ sym (whole_back stored bytes back w.form_is.1));
    }

pub end_short : (fault : LoadFault) (r : Result (Unit {0}) LoadFault) {s t : Option Stored} {n m : ℕ} {old new : Stage} → r ≡ Err fault → Reads AreEight EightStop (Err fault) s t n m old new → Ended r s t n m old new
end_short fault r {s} {t} {n} {m} {old} {new} e p = subst (λ x. Ended x s t n m old new) (sym e) (record {
  goes = p.goes;
  caused = p.caused;
  tells = λ file taken ahead has here. halts_as (EightStop (length file) (length taken) ahead) (SumStops old.cursor.sum (length file) (length taken) ahead) file fault (λ f h. SumStops.Cut h.0 h.1) (p.tells.is file taken ahead has here);
})
