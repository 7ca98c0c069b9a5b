-- What a cursor takes is taken of the file, and what is read on stands ahead.
use Rattle.std.proofs.Common.{◌≡◌, ℕ, ◌+◌, ◌-◌, ◌^◌, ◌<◌, ◌≤◌, inl, inr, Bool, true, false, cond, [], ◌∷◌, ◌++◌, length, drop, refl, sym, ap, subst, ◌∙◌, arith, append_assoc, length-append}
use Rattle.std.specs.Prelude.{Option, Result, Ok, Err}
use Rattle.df_model.specs.Values.{Bytes}
use Rattle.df_outside.specs.Disks.{Stored}
use Rattle.df_rdbcore.specs.Crc.{crc_from}
use Rattle.df_rdbcore.specs.Texts.{IsLength, IsText}
use Rattle.df_rdbcore.specs.Seen.{BeginsNoLength, BeginsNoText, BeginsCompressed, BeginsTooLong}
use Rattle.df_rdbcore.specs.Reading.{Stand, Takes, LengthFault, TextFault, place_of}
use Rattle.df_rdbcore.proofs.CrcLaws.{crc_append}
use Rattle.df_rdbcore.specs.declared.fault.LoadFault.{LoadFault}
use Rattle.df_rdbcore.specs.declared.fault.LoadFault.TheVariants as faults
use Rattle.df_rdbload.specs.Stops.{Stops, Ends, LengthStops, TextStops}
use Rattle.df_rdbload.specs.Sources.{Stage, IsAt, HasCause, Goes, Whole, Halts, Reads, reads_left, SameReading, Reading, SeesEnd}
use Rattle.df_rdbload.proofs.Steps.{kept_none, goes_on, halts_in, file_on, whole_none, reads_join, reads_stops, Lifts}

-- ---- nothing taken

abbrev pub IsNothing : Bytes → Unit {0} → Type 0
IsNothing form u = form ≡ []

abbrev pub Never : Stops
Never size at rest fault = ⊥

pub never_lifts : {A : Type 0} (P : Bytes → A → Type 0) (a : A) (T : Stops) (old : Stage) → Lifts P a Never T old
never_lifts P a T old size at rest form behind fault place is whole h = absurd h

-- ---- a form is taken

pub taken_at : (form file taken ahead : Bytes) (old new : Stage) → Takes form old.cursor new.cursor → SameReading old new → IsAt file taken ahead old
    → (behind : Bytes) × (ahead ≡ form ++ behind) × IsAt file (taken ++ form) behind new
taken_at form file taken ahead old new t same at =
    let behind : Bytes = new.cursor.rest ++ drop new.next file in
    let front : ahead ≡ form ++ behind =
    sym at.left ∙ ap (λ z. z ++ drop old.next file) t.rest ∙ append_assoc form new.cursor.rest (drop old.next file) ∙ ap (λ n. form ++ (new.cursor.rest ++ drop n file)) (sym same.next) in
    let long = length-append taken form in
    let old_place = at.place in
    let new_place = t.place in
    let within = at.within in
    let next_is = same.next in (
      behind,
      front,
      record {
        whole = at.whole ∙ ap (λ z. taken ++ z) front ∙ sym (append_assoc taken form behind);
        left = refl;
        within = omega arith;
        place = omega (arith, long, old_place, new_place);
        sum = t.sum ∙ ap (λ k. crc_from k form) at.sum ∙ sym (crc_append 0 taken form);
        end = λ e. subst (λ n. length file ≤ n) (sym same.next) (at.end (sym same.ended ∙ e));
      },
    )

-- a call on the cursor alone leaves the disk
pub goes_taken : (form : Bytes) (s : Option Stored) (n : ℕ) (old new : Stage) → Takes form old.cursor new.cursor → SameReading old new → Goes s s n n old new
goes_taken form s n old new t same =
    let long = ap length t.rest in
    let both = length-append form new.cursor.rest in
    let next_is = same.next in
    record {
      kept = kept_none s;
      rises = omega arith;
      runs = omega (arith, long, both, next_is);
      missing = λ e. inl (sym same.missing ∙ e);
    }

pub reads_taken : {A : Type 0} (P : Bytes → A → Type 0) (S : Stops) (a : A) (form : Bytes) (s : Option Stored) (n : ℕ) (old new : Stage) → P form a → Takes form old.cursor new.cursor → SameReading old new
    → Reads P S (Ok a) s s n n old new
reads_taken P S a form s n old new is t same = record {
  goes = goes_taken form s n old new t same;
  caused = tt;
  tells = record {
    is = λ file taken ahead has at.
        let r : (behind : Bytes) × (ahead ≡ form ++ behind) × IsAt file (taken ++ form) behind new = taken_at form file taken ahead old new t same at in
        record { form = form; behind = r.0; form_is = is; front = r.1; at = r.2 };
  };
}

-- ---- a fault of the file where a form is needed

pub no_length_on : (bytes more : Bytes) → BeginsNoLength bytes → BeginsNoLength (bytes ++ more)
no_length_on [] more h = absurd h
no_length_on (b ∷ bytes) more h = h

pub no_text_on : (bytes more : Bytes) → BeginsNoText bytes → BeginsNoText (bytes ++ more)
no_text_on [] more h = absurd h
no_text_on (b ∷ bytes) more h = h

pub compressed_on : (bytes more : Bytes) → BeginsCompressed bytes → BeginsCompressed (bytes ++ more)
compressed_on [] more h = absurd h
compressed_on (b ∷ bytes) more h = h

pub too_long_on : (bytes more : Bytes) → BeginsTooLong bytes → BeginsTooLong (bytes ++ more)
too_long_on bytes more (form, n, tail, is, big, e) = (form, n, tail ++ more, is, big, ap (λ z. z ++ more) e ∙ append_assoc form tail more)

bad_place : (at place n : ℕ) → at ≡ place → place ≡ place_of n → faults.BadLength at ≡ faults.BadLength (place_of n)
bad_place at place n p q = ap faults.BadLength (p ∙ q)

pub length_stops : (fault : LoadFault) (stage : Stage) (file taken ahead : Bytes) → LengthFault fault stage.cursor → IsAt file taken ahead stage → Halts (LengthStops (length file) (length taken) ahead) file fault
length_stops (faults.BadLength at) stage file taken ahead (e, bad) is =
    LengthStops.Bad (subst BeginsNoLength is.left (no_length_on stage.cursor.rest (drop stage.next file) bad)) (bad_place at stage.cursor.place (length taken) e is.place)
length_stops faults.BadMagic stage file taken ahead h is = absurd h
length_stops faults.BadVersion stage file taken ahead h is = absurd h
length_stops (faults.Truncated at) stage file taken ahead h is = absurd h
length_stops (faults.Unsupported code at) stage file taken ahead h is = absurd h
length_stops (faults.UnknownType code at) stage file taken ahead h is = absurd h
length_stops (faults.BadPart kind at) stage file taken ahead h is = absurd h
length_stops (faults.Duplicate kind at) stage file taken ahead h is = absurd h
length_stops (faults.BadChecksum stored computed at) stage file taken ahead h is = absurd h
length_stops (faults.ReadFault at) stage file taken ahead h is = absurd h
length_stops faults.NoMemory stage file taken ahead h is = absurd h

pub text_stops : (fault : LoadFault) (stage : Stage) (file taken ahead : Bytes) → TextFault fault stage.cursor → IsAt file taken ahead stage → Halts (TextStops (length file) (length taken) ahead) file fault
text_stops (faults.BadLength at) stage file taken ahead (e, inl bad) is =
    TextStops.Bad (inl (subst BeginsNoText is.left (no_text_on stage.cursor.rest (drop stage.next file) bad))) (bad_place at stage.cursor.place (length taken) e is.place)
text_stops (faults.BadLength at) stage file taken ahead (e, inr long) is =
    TextStops.Bad (inr (subst BeginsTooLong is.left (too_long_on stage.cursor.rest (drop stage.next file) long))) (bad_place at stage.cursor.place (length taken) e is.place)
text_stops (faults.Unsupported code at) stage file taken ahead (k, e, c) is =
    let same : faults.Unsupported code at ≡ faults.Unsupported 0xC3 (place_of (length taken)) = ap (λ n. faults.Unsupported n at) k ∙ ap (faults.Unsupported 0xC3) (e ∙ is.place) in
    TextStops.Compressed (subst BeginsCompressed is.left (compressed_on stage.cursor.rest (drop stage.next file) c)) same
text_stops faults.NoMemory stage file taken ahead h is = tt
text_stops faults.BadMagic stage file taken ahead h is = absurd h
text_stops faults.BadVersion stage file taken ahead h is = absurd h
text_stops (faults.Truncated at) stage file taken ahead h is = absurd h
text_stops (faults.UnknownType code at) stage file taken ahead h is = absurd h
text_stops (faults.BadPart kind at) stage file taken ahead h is = absurd h
text_stops (faults.Duplicate kind at) stage file taken ahead h is = absurd h
text_stops (faults.BadChecksum stored computed at) stage file taken ahead h is = absurd h
text_stops (faults.ReadFault at) stage file taken ahead h is = absurd h

length_caused : (fault : LoadFault) (stand : Stand) (n m : ℕ) → LengthFault fault stand → HasCause fault n m
length_caused (faults.BadLength at) stand n m h = tt
length_caused faults.BadMagic stand n m h = tt
length_caused faults.BadVersion stand n m h = tt
length_caused (faults.Truncated at) stand n m h = tt
length_caused (faults.Unsupported code at) stand n m h = tt
length_caused (faults.UnknownType code at) stand n m h = tt
length_caused (faults.BadPart kind at) stand n m h = tt
length_caused (faults.Duplicate kind at) stand n m h = tt
length_caused (faults.BadChecksum stored computed at) stand n m h = tt
length_caused (faults.ReadFault at) stand n m h = absurd h
length_caused faults.NoMemory stand n m h = tt

text_caused : (fault : LoadFault) (stand : Stand) (n m : ℕ) → TextFault fault stand → HasCause fault n m
text_caused (faults.BadLength at) stand n m h = tt
text_caused faults.BadMagic stand n m h = tt
text_caused faults.BadVersion stand n m h = tt
text_caused (faults.Truncated at) stand n m h = tt
text_caused (faults.Unsupported code at) stand n m h = tt
text_caused (faults.UnknownType code at) stand n m h = tt
text_caused (faults.BadPart kind at) stand n m h = tt
text_caused (faults.Duplicate kind at) stand n m h = tt
text_caused (faults.BadChecksum stored computed at) stand n m h = tt
text_caused (faults.ReadFault at) stand n m h = absurd h
text_caused faults.NoMemory stand n m h = tt

-- the cursor is as it was
pub same_stage : (file taken ahead : Bytes) (old new : Stage) → new.cursor ≡ old.cursor → SameReading old new → IsAt file taken ahead old → IsAt file taken ahead new
same_stage file taken ahead old new e same at = record {
  whole = at.whole;
  left = ap (λ (c : Stand). c.rest ++ drop new.next file) e ∙ ap (λ n. old.cursor.rest ++ drop n file) same.next ∙ at.left;
  within = subst (λ n. n ≤ length file) (sym same.next) at.within;
  place = ap (λ (c : Stand). c.place) e ∙ at.place;
  sum = ap (λ (c : Stand). c.sum) e ∙ at.sum;
  end = λ f. subst (λ n. length file ≤ n) (sym same.next) (at.end (sym same.ended ∙ f));
}

pub goes_same : (s : Option Stored) (n : ℕ) (old new : Stage) → new.cursor ≡ old.cursor → SameReading old new → Goes s s n n old new
goes_same s n old new e same =
    let long : length new.cursor.rest ≡ length old.cursor.rest = ap (λ (c : Stand). length c.rest) e in
    let next_is = same.next in
    record { kept = kept_none s; rises = omega arith; runs = omega (arith, long, next_is); missing = λ f. inl (sym same.missing ∙ f) }

pub reads_no_length : (fault : LoadFault) (s : Option Stored) (n : ℕ) (old new : Stage) → new.cursor ≡ old.cursor → SameReading old new → LengthFault fault old.cursor → Reads IsLength LengthStops (Err fault) s s n n old new
reads_no_length fault s n old new e same h = record {
  goes = goes_same s n old new e same;
  caused = length_caused fault old.cursor n n h;
  tells = record { is = λ file taken ahead has at. length_stops fault old file taken ahead h at };
}

pub reads_no_text : (fault : LoadFault) (s : Option Stored) (n : ℕ) (old new : Stage) → new.cursor ≡ old.cursor → SameReading old new → TextFault fault old.cursor → Reads IsText TextStops (Err fault) s s n n old new
reads_no_text fault s n old new e same h = record {
  goes = goes_same s n old new e same;
  caused = text_caused fault old.cursor n n h;
  tells = record { is = λ file taken ahead has at. text_stops fault old file taken ahead h at };
}

-- the cursor found no whole form, and nothing was taken
pub reads_waits : (s : Option Stored) (n : ℕ) (old new : Stage) → new.cursor ≡ old.cursor → SameReading old new → Reads IsNothing Never (Ok tt) s s n n old new
reads_waits s n old new e same = record {
  goes = goes_same s n old new e same;
  caused = tt;
  tells = record { is = λ file taken ahead has at. whole_none IsNothing tt file taken ahead new refl (same_stage file taken ahead old new e same at) };
}

-- ---- reading on

pub reads_on : (s t : Option Stored) (n m : ℕ) (old new : Stage) → Reading (Ok true) s t n m old new → Reads IsNothing Never (Ok tt) s t n m old new
reads_on s t n m old new r = record {
  goes = r.goes;
  caused = tt;
  tells = record { is = λ file taken ahead has at. whole_none IsNothing tt file taken ahead new refl (r.tells file taken ahead has at) };
}

pub reads_fails : (fault : LoadFault) (s t : Option Stored) (n m : ℕ) (old new : Stage) → Reading (Err fault) s t n m old new → Reads IsNothing Never (Err fault) s t n m old new
reads_fails fault s t n m old new r = record {
  goes = r.goes;
  caused = r.caused;
  tells = record { is = λ file taken ahead has at. r.tells file taken ahead has at };
}

-- the file has ended where a form is needed of which only the front stands there
pub reads_ends : {A : Type 0} (P : Bytes → A → Type 0) (S : Stops) (s t : Option Stored) (n m : ℕ) (old middle new : Stage) (fault : LoadFault)
    → ((size at : ℕ) (f : LoadFault) → Ends size f → S size at old.cursor.rest f)
    → middle.cursor ≡ old.cursor → SameReading old middle → Reading (Ok false) s t n m middle new → fault ≡ faults.Truncated new.next → Reads P S (Err fault) s t n m old new
reads_ends P S s t n m old middle new fault stops e same r is = record {
  goes = goes_on (goes_same s n old middle e same) r.goes;
  caused = subst (λ f. HasCause f n m) (sym is) tt;
  tells = record {
    is = λ file taken ahead has at.
        let end : IsAt file taken ahead new × (new.cursor.rest ≡ ahead) × (new.next ≡ place_of (length file)) = r.tells file taken ahead has (same_stage file taken ahead old middle e same at) in
        let all : old.cursor.rest ≡ ahead = sym (r.left.0 ∙ ap (λ (c : Stand). c.rest) e) ∙ end.1 in
        let ends : Ends (length file) fault = is ∙ ap faults.Truncated end.2 in
        halts_in (S (length file) (length taken) ahead) file fault (subst (λ z. S (length file) (length taken) z fault) all (stops (length file) (length taken) fault ends));
  };
}

-- ---- a loop that reads on until a form stands there

nothing_more : (form more : Bytes) → form ≡ [] → more ≡ [] → form ++ more ≡ []
nothing_more form more p q = ap (λ z. z ++ more) p ∙ q

nothing_lifts : (S : Stops) (old : Stage) → Lifts IsNothing tt S S old
nothing_lifts S old size at rest form behind fault place is whole h =
    let long = ap length is in
    let zero : at + length form ≡ at = omega (arith, long) in
    subst (λ z. S size at z fault) (sym (whole ∙ ap (λ z. z ++ behind) is)) (subst (λ n. S size n behind fault) zero h)

module _ {s t : Option Stored} {n m : ℕ} {old middle : Stage} (so_far : Reads IsNothing Never (Ok tt) s t n m old middle) where
  pub form_taken : {A : Type 0} (P : Bytes → A → Type 0) (S : Stops) (a : A) (form : Bytes) (new : Stage) → P form a → Takes form middle.cursor new.cursor → SameReading middle new → Reads P S (Ok a) s t n m old new
  form_taken P S a form new is takes same = reads_join P S a so_far (reads_taken P S a form t m middle new is takes same) (λ f more p q. subst (λ z. P (z ++ more) a) (sym p) q)

  pub no_length : (fault : LoadFault) (r : Result ℕ LoadFault) (new : Stage) → r ≡ Err fault → new.cursor ≡ middle.cursor → SameReading middle new → LengthFault fault middle.cursor → Reads IsLength LengthStops r s t n m old new
  no_length fault r new is e same h = reads_stops IsLength LengthStops r is so_far (reads_no_length fault t m middle new e same h) (nothing_lifts LengthStops old)

  pub no_text : (fault : LoadFault) (r : Result Bytes LoadFault) (new : Stage) → r ≡ Err fault → new.cursor ≡ middle.cursor → SameReading middle new → TextFault fault middle.cursor → Reads IsText TextStops r s t n m old new
  no_text fault r new is e same h = reads_stops IsText TextStops r is so_far (reads_no_text fault t m middle new e same h) (nothing_lifts TextStops old)

  pub goes_on_reading : {u : Option Stored} {k : ℕ} (here new : Stage) → here.cursor ≡ middle.cursor → SameReading middle here → Reading (Ok true) t u m k here new → Reads IsNothing Never (Ok tt) s u n k old new
  goes_on_reading {u} {k} here new e same r =
      reads_join IsNothing Never tt (reads_join IsNothing Never tt so_far (reads_waits t m middle here e same) nothing_more) (reads_on t u m k here new r) nothing_more

  pub fails_reading : {A : Type 0} (P : Bytes → A → Type 0) (S : Stops) {u : Option Stored} {k : ℕ} (fault : LoadFault) (r : Result A LoadFault) (here new : Stage) → r ≡ Err fault → here.cursor ≡ middle.cursor → SameReading middle here
      → Reading (Err fault) t u m k here new → Reads P S r s u n k old new
  fails_reading P S {u} {k} fault r here new is e same f =
      reads_stops P S r is (reads_join IsNothing Never tt so_far (reads_waits t m middle here e same) nothing_more) (reads_fails fault t u m k here new f) (never_lifts IsNothing tt S old)

  pub ends_reading : {A : Type 0} (P : Bytes → A → Type 0) (S : Stops) {u : Option Stored} {k : ℕ} (fault : LoadFault) (here new : Stage) → ((size at : ℕ) (f : LoadFault) → Ends size f → S size at middle.cursor.rest f)
      → here.cursor ≡ middle.cursor → SameReading middle here → Reading (Ok false) t u m k here new → fault ≡ faults.Truncated new.next → Reads P S (Err fault) s u n k old new
  ends_reading P S {u} {k} fault here new stops e same r is = reads_stops P S (Err fault) refl so_far (reads_ends P S t u m k middle here new fault stops e same r is) (nothing_lifts S old)

  -- a byte stands there
  pub goes_past : (b : ℕ) (new : Stage) → Takes (b ∷ []) middle.cursor new.cursor → SameReading middle new → SeesEnd (Ok false) s t n m old new
  goes_past b new takes same = record {
    goes = goes_on so_far.goes (goes_taken (b ∷ []) t m middle new takes same);
    caused = tt;
    tells = λ file taken ahead has at.
        let w : Whole IsNothing tt file taken ahead middle = so_far.tells.is file taken ahead has at in
        some ahead w.form (new.cursor.rest) (drop middle.next file) (w.front ∙ ap (λ z. w.form ++ z) (sym w.at.left ∙ ap (λ z. z ++ drop middle.next file) takes.rest));
  }
    where
      some : (ahead form rest more : Bytes) → ahead ≡ form ++ (((b ∷ []) ++ rest) ++ more) → 0 < length ahead
      some ahead form rest more e = let long = ap length e in let both = length-append form (b ∷ (rest ++ more)) in omega (arith, long, both)

  pub fails_end : {u : Option Stored} {k : ℕ} (fault : LoadFault) (r : Result Bool LoadFault) (here new : Stage) → r ≡ Err fault → here.cursor ≡ middle.cursor → SameReading middle here
      → Reading (Err fault) t u m k here new → SeesEnd r s u n k old new
  fails_end {u} {k} fault r here new is e same f =
      let all : Reads IsNothing Never (Err fault) s u n k old new = fails_reading IsNothing Never fault (Err fault) here new refl e same f in
      subst (λ x. SeesEnd x s u n k old new) (sym is) (record { goes = all.goes; caused = all.caused; tells = λ file taken ahead has at. all.tells.is file taken ahead has at })

  pub at_end : {u : Option Stored} {k : ℕ} (here new : Stage) → middle.cursor.rest ≡ [] → here.cursor ≡ middle.cursor → SameReading middle here → Reading (Ok false) t u m k here new → SeesEnd (Ok true) s u n k old new
  at_end {u} {k} here new none e same r = record {
    goes = goes_on so_far.goes (goes_on (goes_same t m middle here e same) r.goes);
    caused = tt;
    tells = λ file taken ahead has at.
        let w : Whole IsNothing tt file taken ahead middle = so_far.tells.is file taken ahead has at in
        let end : IsAt file (taken ++ w.form) w.behind new × (new.cursor.rest ≡ w.behind) × (new.next ≡ place_of (length file)) =
        r.tells file (taken ++ w.form) w.behind (file_on s t file so_far.goes.kept has) (same_stage file (taken ++ w.form) w.behind middle here e same w.at) in
        let rest : new.cursor.rest ≡ [] = r.left.0 ∙ ap (λ (c : Stand). c.rest) e ∙ none in
        w.front ∙ ap (λ z. w.form ++ z) (sym end.1 ∙ rest) ∙ nothing_more w.form [] w.form_is refl;
  }

-- what is left to read falls
pub less_left : (old here new : Stage) → SameReading old here → reads_left new < reads_left here → reads_left new < reads_left old
less_left old here new same h =
    let e : reads_left here ≡ reads_left old = ap (λ k. (2 ^ 64 - k) + cond here.ended 0 1) same.next ∙ ap (λ b. (2 ^ 64 - old.next) + cond b 0 1) same.ended in
    subst (λ k. reads_left new < k) e h
