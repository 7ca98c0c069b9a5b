-- Parts one after another, and the whole of a file.
use Rattle.std.proofs.Common.{◌≡◌, ℕ, ◌+◌, inl, inr, true, false, List, [], ◌∷◌, ◌++◌, map, length, refl, sym, ap, subst, ◌∙◌, arith, append_assoc, length-append}
use Rattle.std.specs.Prelude.{Option, Some, None, Result, Ok, Err, ◌⊎◌}
use Rattle.std.specs.Int.{w64, to_le_bytes}
use Rattle.std.specs.HashMap.{HashMap}
use Rattle.df_model.specs.Values.{Bytes}
use Rattle.df_outside.specs.Disks.{Stored}
use Rattle.df_values.specs.Seen.{seen}
use Rattle.df_values.specs.declared.value.Value.{Value}
use Rattle.df_rdbcore.specs.Crc.{crc}
use Rattle.df_rdbcore.specs.Parts.{Entry, InTurn, IsPart, NoneTwice, firsts}
use Rattle.df_rdbcore.specs.Files.{Spells, head, summed, keyspace_of}
use Rattle.df_rdbcore.specs.declared.fault.LoadFault.{LoadFault}
use Rattle.df_rdbload.specs.FileStops.{HoldsKey, EntryStops, PassedStops, PartStops, SumStops, HeadStops, added, IsVersion, Begun, FileStops}
use Rattle.df_rdbload.specs.Sources.{Stage, HasFile, Whole, Reads, IsByte}
use Rattle.df_rdbload.specs.Entries.{keyspace_in, Adds, PartRead, EntryRead, PassedRead, Gathers, IsGathered, BodyRead, BodyStops, HeadRead, EndRead, Ended, ReadsFile}
use Rattle.df_rdbload.proofs.Steps.{Lifts, file_on, goes_on, cause_on, halts_as, whole_join}
use Rattle.df_rdbload.proofs.SourceLaws.{Never}
use Rattle.df_rdbload.proofs.KeyLaws.{in_turn_push, once_push, firsts_push, added_none, added_some}

-- ---- one more part

grown_by : (es fs : List (Bytes × Value)) (body form : Bytes) (entry : Option Entry) (g : Gathers es body) → IsPart form entry → Adds entry (added g.parts) fs → Gathers fs (body ++ form)
grown_by es fs body form None g part adds = record {
  parts = g.parts ++ None ∷ [];
  parts_are = in_turn_push IsPart body form g.parts None g.parts_are part;
  once = subst (λ z. NoneTwice (firsts z)) (sym (added_none g.parts)) g.once;
  keys_are = ap keyspace_of (added_none g.parts) ∙ adds;
}
grown_by es fs body form (Some entry) g part adds = record {
  parts = g.parts ++ Some entry ∷ [];
  parts_are = in_turn_push IsPart body form g.parts (Some entry) g.parts_are part;
  once = subst (λ z. NoneTwice (firsts z)) (sym (added_some g.parts entry)) (subst NoneTwice (sym (firsts_push (added g.parts) entry)) (once_push (firsts (added g.parts)) entry.0 g.once adds.0));
  keys_are = ap keyspace_of (added_some g.parts entry) ∙ adds.1;
}

abbrev pub entries_in : List (Bytes × Value) → List Entry
entries_in es = map (λ e. (e.0, seen e.1)) es

module _ {s t : Option Stored} {n m : ℕ} {old middle : Stage} (es : List (Bytes × Value)) (so_far : Reads IsGathered Never (Ok es) s t n m old middle) where
  pub part_on : {u : Option Stored} {k : ℕ} {new : Stage} (fs : List (Bytes × Value))
      → ((read : List Entry) → keyspace_of read ≡ keyspace_in es → Reads (PartRead read fs) (PartStops (firsts read)) (Ok true) t u m k middle new) → Reads IsGathered Never (Ok fs) s u n k old new
  part_on {new = new} fs reads = record {
    goes = goes_on so_far.goes (reads (entries_in es) refl).goes;
    caused = tt;
    tells = record {
      is = λ file taken ahead has at.
          let w : Whole IsGathered es file taken ahead middle = so_far.tells.is file taken ahead has at in
          let g : Gathers es w.form = w.form_is in
          let v : Whole (PartRead (added g.parts) fs) true file (taken ++ w.form) w.behind new =
          (reads (added g.parts) g.keys_are).tells.is file (taken ++ w.form) w.behind (file_on s t file so_far.goes.kept has) w.at in
          let p = v.form_is in
          whole_join IsGathered fs w v (grown_by es fs w.form v.form p.0 g p.1 p.2);
    };
  }

  pub parts_end : {S : Type 0} {u : Option Stored} {k : ℕ} {new : Stage} (keys : HashMap Bytes Value S)
      → ((read : List Entry) → keyspace_of read ≡ keyspace_in es → Reads (PartRead read keys.entries) (PartStops (firsts read)) (Ok false) t u m k middle new) → Reads (BodyRead {S = S}) BodyStops (Ok keys) s u n k old new
  parts_end {S = S} {new = new} keys reads = record {
    goes = goes_on so_far.goes (reads (entries_in es) refl).goes;
    caused = tt;
    tells = record {
      is = λ file taken ahead has at.
          let w : Whole IsGathered es file taken ahead middle = so_far.tells.is file taken ahead has at in
          let g : Gathers es w.form = w.form_is in
          let v : Whole (PartRead (added g.parts) keys.entries) false file (taken ++ w.form) w.behind new =
          (reads (added g.parts) g.keys_are).tells.is file (taken ++ w.form) w.behind (file_on s t file so_far.goes.kept has) w.at in
          let p = v.form_is in
          let all : Gathers keys.entries w.form = record { parts = g.parts; parts_are = g.parts_are; once = g.once; keys_are = p.1 } in
          whole_join (BodyRead {S = S}) keys w v (w.form, all, ap (λ z. w.form ++ z) p.0);
    };
  }

  pub parts_stop : {S : Type 0} {u : Option Stored} {k : ℕ} {new : Stage} (fs : List (Bytes × Value)) (fault : LoadFault) (r : Result (HashMap Bytes Value S) LoadFault) → r ≡ Err fault
      → ((read : List Entry) → keyspace_of read ≡ keyspace_in es → Reads (PartRead read fs) (PartStops (firsts read)) (Err fault) t u m k middle new) → Reads (BodyRead {S = S}) BodyStops r s u n k old new
  parts_stop {S = S} {u = u} {k = k} {new = new} fs fault r is reads = subst (λ x. Reads (BodyRead {S = S}) BodyStops x s u n k old new) (sym is) (record {
    goes = goes_on so_far.goes (reads (entries_in es) refl).goes;
    caused = cause_on fault n m k so_far.goes.rises (reads (entries_in es) refl).caused;
    tells = record {
      is = λ file taken ahead has at.
          let w : Whole IsGathered es file taken ahead middle = so_far.tells.is file taken ahead has at in
          let g : Gathers es w.form = w.form_is in
          halts_as (PartStops (firsts (added g.parts)) (length file) (length (taken ++ w.form)) w.behind) (BodyStops (length file) (length taken) ahead) file fault
          (λ f h. record { body = w.form; behind = w.behind; parts = g.parts; parts_are = g.parts_are; once = g.once; whole = w.front; stops = subst (λ i. PartStops (firsts (added g.parts)) (length file) i w.behind f) (length-append taken w.form) h })
          ((reads (added g.parts) g.keys_are).tells.is file (taken ++ w.form) w.behind (file_on s t file so_far.goes.kept has) w.at);
    };
  })

-- ---- a part behind its first byte

begins_with : (first : ℕ) (rest form behind : Bytes) → form ≡ first ∷ [] → rest ≡ form ++ behind → rest ≡ first ∷ behind
begins_with first rest form behind is whole = whole ∙ ap (λ z. z ++ behind) is

pub entry_stops : (keys : List Bytes) (first begin : ℕ) (old : Stage) → HoldsKey first → begin ≡ old.cursor.place → Lifts IsByte first (EntryStops keys first begin) (PartStops keys) old
entry_stops keys first begin old holds b size at rest form behind fault place is whole h =
    let long : length form ≡ 1 = ap length is in
    PartStops.Holds first behind holds (begins_with first rest form behind is whole)
    (subst (λ k. EntryStops keys first k size (at + 1) behind fault) (b ∙ place) (subst (λ n. EntryStops keys first begin size (at + n) behind fault) long h))

pub passed_stops : (keys : List Bytes) (first begin : ℕ) (old : Stage) → begin ≡ old.cursor.place → Lifts IsByte first (PassedStops first begin) (PartStops keys) old
passed_stops keys first begin old b size at rest form behind fault place is whole h =
    let long : length form ≡ 1 = ap length is in
    PartStops.Passed first behind (begins_with first rest form behind is whole)
    (subst (λ k. PassedStops first k size (at + 1) behind fault) (b ∙ place) (subst (λ n. PassedStops first begin size (at + n) behind fault) long h))

pub entry_read : (read : List Entry) (fs : List (Bytes × Value)) (first : ℕ) (form more : Bytes) → IsByte form first → EntryRead first read fs more tt → PartRead read fs (form ++ more) true
entry_read read fs first form more p q = (Some q.0, IsPart.Holds first more q.0 q.1 (ap (λ z. z ++ more) p) refl, q.2)

pub passed_read : (read : List Entry) (fs : List (Bytes × Value)) (first : ℕ) (form more : Bytes) → keyspace_of read ≡ keyspace_in fs → IsByte form first → PassedRead first more tt → PartRead read fs (form ++ more) true
passed_read read fs first form more same p q = (None, subst (λ z. IsPart z None) (sym (ap (λ z. z ++ more) p)) q, same)

-- ---- the whole

-- what the sum is taken over
summed_is : (version : ℕ) (one two body : Bytes) → one ≡ head version → two ≡ body ++ 0xFF ∷ [] → ([] ++ one) ++ two ≡ summed version body
summed_is version one two body p q = ap (λ z. z ++ two) p ∙ ap (λ z. head version ++ z) q ∙ sym (append_assoc (head version) body (0xFF ∷ []))

spells : (version : ℕ) (file one two behind body : Bytes) (keys : List (Bytes × Value)) (sum computed : ℕ) → IsVersion version → one ≡ head version → two ≡ body ++ 0xFF ∷ [] → Gathers keys body
    → file ≡ (([] ++ one) ++ two) ++ behind → computed ≡ crc (([] ++ one) ++ two) → (sum ≡ 0) ⊎ (sum ≡ computed) → behind ≡ to_le_bytes w64 sum → Spells file (keyspace_in keys)
spells version file one two behind body keys sum computed is p q g whole c good e =
    let all : ([] ++ one) ++ two ≡ summed version body = summed_is version one two body p q in
    let sum_is : (sum ≡ 0) ⊎ (sum ≡ crc (summed version body)) = elim good [ inl zero ↦ inl zero | inr same ↦ inr (same ∙ c ∙ ap crc all) ] in
    record {
      entries = added g.parts;
      is_file = record {
        version = version;
        from_5 = is.0;
        to_12 = is.1;
        body = body;
        parts = g.parts;
        parts_are = g.parts_are;
        entries_are = refl;
        sum = sum;
        sum_is = sum_is;
        whole = whole ∙ ap (λ z. z ++ behind) all ∙ ap (λ z. summed version body ++ z) e;
      };
      once = g.once;
      keyspace = sym g.keys_are;
    }

pub file_head : {S : Type 0} (fault : LoadFault) (r : Result (HashMap Bytes Value S) LoadFault) {s t : Option Stored} {n m : ℕ} {old new : Stage} → r ≡ Err fault → Reads HeadRead HeadStops (Err fault) s t n m old new → ReadsFile r s t n m old new
file_head fault r {s} {t} {n} {m} {old} {new} is h = subst (λ x. ReadsFile x s t n m old new) (sym is) (record {
  goes = h.goes;
  caused = h.caused;
  tells = λ file has at. halts_as (HeadStops (length file) 0 file) (FileStops file) file fault (λ f x. FileStops.Head x) (h.tells.is file [] file has at);
})

abbrev begun : (version : ℕ) (file one body rest : Bytes) (parts : List (Option Entry)) → IsVersion version → one ≡ head version → InTurn IsPart body parts → NoneTwice (firsts (added parts)) → file ≡ one ++ (body ++ rest) → Begun file
begun version file one body rest parts is p are once whole = record {
  version = version;
  is_version = is;
  body = body;
  parts = parts;
  parts_are = are;
  once = once;
  rest = rest;
  whole = whole ∙ ap (λ z. z ++ (body ++ rest)) p;
}

module _ {s t : Option Stored} {n m : ℕ} {old middle : Stage} (begins : Reads HeadRead HeadStops (Ok tt) s t n m old middle) where
  pub file_parts : {S : Type 0} {u : Option Stored} {k : ℕ} {new : Stage} (fault : LoadFault) (r : Result (HashMap Bytes Value S) LoadFault) → r ≡ Err fault → Reads (BodyRead {S = S}) BodyStops (Err fault) t u m k middle new → ReadsFile r s u n k old new
  file_parts {u = u} {k = k} {new = new} fault r is p = subst (λ x. ReadsFile x s u n k old new) (sym is) (record {
    goes = goes_on begins.goes p.goes;
    caused = cause_on fault n m k begins.goes.rises p.caused;
    tells = λ file has at.
        let w : Whole HeadRead tt file [] file middle = begins.tells.is file [] file has at in
        let v = w.form_is in
        let long : length w.form ≡ 9 = ap length v.2 in
        halts_as (BodyStops (length file) (length ([] ++ w.form)) w.behind) (FileStops file) file fault
        (λ f h.
        let b : Begun file = begun v.0 file w.form h.body h.behind h.parts v.1 v.2 h.parts_are h.once (w.front ∙ ap (λ z. w.form ++ z) h.whole) in
        FileStops.Part b (subst (λ i. PartStops (firsts (added h.parts)) (length file) (i + length h.body) h.behind f) long h.stops))
        (p.tells.is file ([] ++ w.form) w.behind (file_on s t file begins.goes.kept has) w.at);
  })

  module _ {S : Type 0} {u : Option Stored} {k : ℕ} {here : Stage} (keys : HashMap Bytes Value S) (body : Reads (BodyRead {S = S}) BodyStops (Ok keys) t u m k middle here) where
    pub file_end : {v : Option Stored} {j : ℕ} {new : Stage} (fault : LoadFault) (r : Result (HashMap Bytes Value S) LoadFault) → r ≡ Err fault → Ended (Err fault) u v k j here new → ReadsFile r s v n j old new
    file_end {v} {j} {new} fault r is p = subst (λ x. ReadsFile x s v n j old new) (sym is) (record {
      goes = goes_on begins.goes (goes_on body.goes p.goes);
      caused = cause_on fault n m j begins.goes.rises (cause_on fault m k j body.goes.rises p.caused);
      tells = λ file has at.
          let w : Whole HeadRead tt file [] file middle = begins.tells.is file [] file has at in
          let has' : HasFile t file = file_on s t file begins.goes.kept has in
          let x : Whole (BodyRead {S = S}) keys file ([] ++ w.form) w.behind here = body.tells.is file ([] ++ w.form) w.behind has' w.at in
          let h = w.form_is in
          let y = x.form_is in
          let g : Gathers keys.entries y.0 = y.1 in
          let sum_is : here.cursor.sum ≡ crc (summed h.0 y.0) = x.at.sum ∙ ap crc (summed_is h.0 w.form x.form y.0 h.2 y.2) in
          let form_long : length w.form ≡ 9 = ap length h.2 in
          let two_long : length x.form ≡ length y.0 + 1 = ap length y.2 ∙ length-append y.0 (0xFF ∷ []) in
          let both = length-append ([] ++ w.form) x.form in
          let long : length (([] ++ w.form) ++ x.form) ≡ 10 + length y.0 = omega (arith, both, form_long, two_long) in
          let whole : file ≡ w.form ++ (y.0 ++ 0xFF ∷ x.behind) = w.front ∙ ap (λ z. w.form ++ z) (x.front ∙ ap (λ z. z ++ x.behind) y.2 ∙ append_assoc y.0 (0xFF ∷ []) x.behind) in
          let b : Begun file = begun h.0 file w.form y.0 (0xFF ∷ x.behind) g.parts h.1 h.2 g.parts_are g.once whole in
          halts_as (SumStops here.cursor.sum (length file) (length (([] ++ w.form) ++ x.form)) x.behind) (FileStops file) file fault
          (λ f q. FileStops.End b x.behind refl (subst (λ i. SumStops (crc (summed h.0 y.0)) (length file) i x.behind f) long (subst (λ i. SumStops i (length file) (length (([] ++ w.form) ++ x.form)) x.behind f) sum_is q)))
          (p.tells file (([] ++ w.form) ++ x.form) x.behind (file_on t u file body.goes.kept has') x.at);
    })

    pub file_whole : {v : Option Stored} {j : ℕ} {new : Stage} → Ended (Ok tt) u v k j here new → ReadsFile (Ok keys) s v n j old new
    file_whole {v} {j} {new} p = record {
      goes = goes_on begins.goes (goes_on body.goes p.goes);
      caused = tt;
      tells = λ file has at.
          let w : Whole HeadRead tt file [] file middle = begins.tells.is file [] file has at in
          let has' : HasFile t file = file_on s t file begins.goes.kept has in
          let x : Whole (BodyRead {S = S}) keys file ([] ++ w.form) w.behind here = body.tells.is file ([] ++ w.form) w.behind has' w.at in
          let h = w.form_is in
          let y = x.form_is in
          let e : EndRead (Ok tt) here.cursor.sum file (([] ++ w.form) ++ x.form) x.behind = p.tells file (([] ++ w.form) ++ x.form) x.behind (file_on t u file body.goes.kept has') x.at in
          spells h.0 file w.form x.form x.behind y.0 keys.entries e.0 here.cursor.sum h.1 h.2 y.2 y.1 x.at.whole x.at.sum e.1 e.2;
    }
