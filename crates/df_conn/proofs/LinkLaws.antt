-- What each answer of the link makes of a connection.
use Rattle.std.proofs.Common.{◌≡◌, ◌⊎◌, inl, inr, ℕ, ◌+◌, ◌-◌, ◌<◌, ◌≤◌, Bool, true, List, [], ◌∷◌, ◌++◌, length, take, drop, refl, sym, ap, subst, ◌∙◌, arith, append_assoc, append-nil, length-append, take-append-drop}
use Rattle.std.specs.Prelude.{None, Result, Ok, Err, OnOk, is_err, false}
use Rattle.std.specs.Io.KnownBytes.{Appends}
use Rattle.std.proofs.KnownBytes.{Appends-trans}
use Rattle.std.proofs.lemmas.List.{take-append-le, drop-take, length-take}
use Rattle.std.proofs.lemmas.Grind.{common_steps}
use Rattle.df_model.specs.Values.{Bytes}
use Rattle.df_model.specs.Framing.{Splits}
use Rattle.df_model.specs.Output.{MayStop, farewell}
use Rattle.df_model.specs.Spoken.{Spoke, CutsOff}
use Rattle.df_model.specs.declared.session.Turn.{Turn}
use Rattle.df_model.specs.declared.session.Turn.TheVariants as turns
use Rattle.df_model.specs.declared.session.Why.{Why}
use Rattle.df_model.specs.declared.session.Why.TheVariants as ends
use Rattle.df_outside.specs.Faults.{Rose}
use Rattle.df_outside.specs.Links.{Flow, TookIn, PutOut, Spends}
use Rattle.df_resp.specs.Stream.{Stream, Counts}
use Rattle.df_caller.specs.Told.{Told, told_items}
use Rattle.df_conn.specs.Walked.{Walked, Closes}
use Rattle.df_conn.specs.Talks.{Stands, IsDry, Passed}
use Rattle.df_conn.specs.Turns.{Sight, At, Flows, Going, IsGoing, IsWriting, Moves, Stalls, Sinks, rank, waiting, Causes, Turned, TurnedAway, TurnsAway, Proven, EndsItself, ClosesAs, cut_at, cut_off, session_of}
use Rattle.df_conn.specs.declared.conn.Stage.{Stage}
use Rattle.df_conn.specs.declared.conn.Stage.TheVariants as stages
use Rattle.df_resp.proofs.CountLaws.{no_longer}
use Rattle.df_conn.proofs.FlowLaws.{spends_more, spends_same, proven_itself, rose_since}
use Rattle.df_conn.proofs.TurnLaws.{front_is, at_stage}
use Rattle.df_conn.proofs.WalkLaws.{walked_more}
use Rattle.df_model.proofs.FramingLaws.{splits_join}
use Rattle.df_conn.proofs.SpeakLaws.{cuts_may, spoke_stopped, spoke_cut, spoke_closed, spoke_away, speaks_done, spoke_front}

-- ---- writes

take_more : (n m : ℕ) (xs : Bytes) → n ≤ length xs → take n xs ++ take m (drop n xs) ≡ take (n + m) xs
take_more n m xs within =
    let ys : Bytes = take (n + m) xs in
    let le : n ≤ length ys = omega (arith, length-take (n + m) xs, within) in
    let front : take n xs ≡ take n ys = ap (λ l. take n l) (sym (take-append-drop (n + m) xs)) ∙ take-append-le n ys (drop (n + m) xs) le in
    ap (λ l. l ++ take m (drop n xs)) front ∙ ap (λ l. take n ys ++ l) (sym (drop-take n m xs)) ∙ take-append-drop n ys

take_whole : (n : ℕ) (xs : Bytes) → length xs ≤ n → take n xs ≡ xs
take_whole n xs le = grind (arith, common_steps)

drop_whole : (n : ℕ) (xs : Bytes) → length xs ≤ n → drop n xs ≡ []
drop_whole n xs le = grind (arith, common_steps)

length_drop : (n : ℕ) (xs : Bytes) → length (drop n xs) ≡ length xs - n
length_drop n xs = grind (arith, common_steps)

-- some of what waits was written
abbrev wrote_some : (first old now : Flow) (output : Bytes) (sent count : ℕ) → Flows first old output sent → sent + count ≤ length output → PutOut old now (take count (drop sent output)) → Flows first now output (sent + count)
wrote_some first old now output sent count f le p = record {
  bytes = f.bytes;
  wrote = f.wrote ++ take count (drop sent output);
  said = f.said;
  gone = f.gone;
  taken = subst (λ x. Appends first.taken x f.bytes) (sym p.taken) f.taken;
  written = Appends-trans first.written old.written now.written f.wrote (take count (drop sent output)) f.written p.written;
  read_faults = omega (arith, f.read_faults, p.read_faults);
  write_faults = omega (arith, f.write_faults, p.write_faults);
  left = subst (λ x. Spends first.left x (length f.bytes)) (sym p.left) f.left;
  within = le;
  said_is = f.said_is;
  wrote_is = ap (λ x. x ++ take count (drop sent output)) f.wrote_is ∙ append_assoc f.gone (take sent output) (take count (drop sent output)) ∙ ap (λ x. f.gone ++ x) (take_more sent count output f.within);
}

-- where that is all, the output is let go
abbrev wrote_all : (first old now : Flow) (output output' : Bytes) (sent sent' count : ℕ) → Flows first old output sent → sent + count ≡ length output → output' ≡ [] → sent' ≡ 0 → PutOut old now (take count (drop sent output)) → Flows first now output' sent'
wrote_all first old now output output' sent sent' count f all none zero p = record {
  bytes = f.bytes;
  wrote = f.wrote ++ take count (drop sent output);
  said = f.said;
  gone = f.said;
  taken = subst (λ x. Appends first.taken x f.bytes) (sym p.taken) f.taken;
  written = Appends-trans first.written old.written now.written f.wrote (take count (drop sent output)) f.written p.written;
  read_faults = omega (arith, f.read_faults, p.read_faults);
  write_faults = omega (arith, f.write_faults, p.write_faults);
  left = subst (λ x. Spends first.left x (length f.bytes)) (sym p.left) f.left;
  within = omega (arith, zero);
  said_is = sym (append-nil f.said) ∙ ap (λ x. f.said ++ x) (sym none);
  wrote_is = ap (λ x. f.wrote ++ x) (take_whole count (drop sent output) (omega (arith, all, length_drop sent output))) ∙ sym (front_is first old output sent f) ∙ sym (append-nil f.said) ∙ ap (λ x. f.said ++ x) (sym (ap (λ n. take n output') zero));
}

-- nothing was written
abbrev wrote_none : (first old now : Flow) (output : Bytes) (sent : ℕ) → Flows first old output sent → PutOut old now [] → Flows first now output sent
wrote_none first old now output sent f p = record {
  bytes = f.bytes;
  wrote = f.wrote;
  said = f.said;
  gone = f.gone;
  taken = subst (λ x. Appends first.taken x f.bytes) (sym p.taken) f.taken;
  written = subst (Appends first.written now.written) (append-nil f.wrote) (Appends-trans first.written old.written now.written f.wrote [] f.written p.written);
  read_faults = omega (arith, f.read_faults, p.read_faults);
  write_faults = omega (arith, f.write_faults, p.write_faults);
  left = subst (λ x. Spends first.left x (length f.bytes)) (sym p.left) f.left;
  within = f.within;
  said_is = f.said_is;
  wrote_is = f.wrote_is;
}

at_write : (x : Stage) (s : Sight) (now : Flow) (output : Bytes) (sent : ℕ) (bytes said wrote wrote' : Bytes) → IsWriting x → At x s bytes said wrote → At x (record s { flow = now; output = output; sent = sent }) bytes said wrote'
at_write stages.Open s now output sent bytes said wrote wrote' w at = at
at_write (stages.Closing why) s now output sent bytes said wrote wrote' w at = (at.0, at.1, proven_itself why bytes s.first s.flow now at.3 at.2, at.3)
at_write stages.Calling s now output sent bytes said wrote wrote' w at = absurd w
at_write (stages.Over why) s now output sent bytes said wrote wrote' w at = absurd w

still_going : (x : Stage) → IsWriting x → IsGoing x
still_going stages.Open w = tt
still_going (stages.Closing why) w = tt
still_going stages.Calling w = absurd w
still_going (stages.Over why) w = absurd w

pub put_some : (stopping : Bool) (s : Sight) (now : Flow) (output : Bytes) (sent count : ℕ) → Going s → IsWriting s.stage → 0 < count → count ≤ length (drop s.sent s.output) → PutOut s.flow now (take count (drop s.sent s.output)) → Passed count s.output s.sent output sent
    → Turned turns.Moved stopping s (record s { flow = now; output = output; sent = sent })
put_some stopping s now output sent count g w some le p passed =
    let f = g.flows in
    let piece : Bytes = take count (drop s.sent s.output) in
    let len : length piece ≡ count = grind (arith, common_steps) in
    let within : s.sent + count ≤ length s.output = omega (arith, le, length_drop s.sent s.output, f.within) in
    let moves : length output - sent < length s.output - s.sent → Moves s (record s { flow = now; output = output; sent = sent }) = λ less. Moves.wrote piece (omega (arith, len, some)) p.written
    record { left = p.left; rest = omega arith; less = inr (omega arith, less) } in
    elim passed [
      | inl same ↦ (
        subst (λ o. Going (record s { flow = now; output = o; sent = sent })) (sym same.0) (subst (λ n. Going (record s { flow = now; output = s.output; sent = n })) (sym same.1)
            (record {
              flows = wrote_some s.first s.flow now s.output s.sent count f within p;
              at = at_write s.stage s now s.output (s.sent + count) f.bytes f.said f.wrote (f.wrote ++ piece) w g.at;
            })),
        still_going s.stage w,
        moves (omega (arith, some, within, ap length same.0, same.1)),
      )
      | inr all ↦ (
        record {
          flows = wrote_all s.first s.flow now s.output output s.sent sent count f all.0 all.1 all.2 p;
          at = at_write s.stage s now output sent f.bytes f.said f.wrote (f.wrote ++ piece) w g.at;
        },
        still_going s.stage w,
        moves (omega (arith, some, all.0, ap length all.1, all.2)),
      )
    ]

pub put_waits : (stopping : Bool) (s : Sight) (now : Flow) → Going s → IsWriting s.stage → PutOut s.flow now [] → Rose s.flow.waits now.waits → s.flow.left ≡ None → Turned turns.NotYet stopping s (record s { flow = now })
put_waits stopping s now g w p rose none =
    let f = g.flows in (
      record {
        flows = wrote_none s.first s.flow now s.output s.sent f p;
        at = at_write s.stage s now s.output s.sent f.bytes f.said f.wrote f.wrote w g.at;
      },
      still_going s.stage w,
      inl (rose, none),
    )

-- no session that is turned away closes as the others do
abbrev IsPlain : Why → Type 0
IsPlain ends.InputEnd = Unit {0}
IsPlain ends.Quit = Unit {0}
IsPlain ends.Asked = Unit {0}
IsPlain ends.Stopped = Unit {0}
IsPlain (ends.Protocol kind at) = Unit {0}
IsPlain ends.ReadFault = Unit {0}
IsPlain ends.WriteFault = Unit {0}
IsPlain ends.TooMany = ⊥
IsPlain ends.Spent = Unit {0}
IsPlain ends.NoMemory = Unit {0}

closes_plainly : (why : Why) (id : ℕ) (bytes said : Bytes) (told : List Told) → IsPlain why → ClosesAs why id bytes said told → Closes why bytes said told
closes_plainly ends.InputEnd id bytes said told plain c = c
closes_plainly ends.Quit id bytes said told plain c = c
closes_plainly ends.Asked id bytes said told plain c = c
closes_plainly ends.Stopped id bytes said told plain c = c
closes_plainly (ends.Protocol kind at) id bytes said told plain c = c
closes_plainly ends.ReadFault id bytes said told plain c = c
closes_plainly ends.WriteFault id bytes said told plain c = c
closes_plainly ends.TooMany id bytes said told plain c = absurd plain
closes_plainly ends.Spent id bytes said told plain c = c
closes_plainly ends.NoMemory id bytes said told plain c = c

abbrev IsPlainAt : Stage → Type 0
IsPlainAt stages.Open = Unit {0}
IsPlainAt stages.Calling = Unit {0}
IsPlainAt (stages.Closing why) = IsPlain why
IsPlainAt (stages.Over why) = Unit {0}

-- an end that may cut off what waits
spoke_from : (x : Stage) (s : Sight) (why : Why) (bytes said wrote unsent : Bytes) → IsWriting x → IsPlainAt x → CutsOff why → At x s bytes said wrote → said ≡ wrote ++ unsent → (s.calling.under ≡ None) × Spoke (session_of s.id why bytes wrote) (told_items s.calling.told)
spoke_from stages.Open s why bytes said wrote unsent w plain cuts at front = (at.0, spoke_stopped s.id why bytes wrote said unsent s.calling.told s.state s.stream.rest at.1.walked (cuts_may why cuts) front)
spoke_from (stages.Closing asked) s why bytes said wrote unsent w plain cuts at front = (at.0, spoke_cut s.id asked why bytes wrote said unsent s.calling.told (closes_plainly asked s.id bytes said s.calling.told plain at.1) cuts front)
spoke_from stages.Calling s why bytes said wrote unsent w plain cuts at front = absurd w
spoke_from (stages.Over over) s why bytes said wrote unsent w plain cuts at front = absurd w

put_ends : (stopping : Bool) (why : Why) (s : Sight) (now : Flow) (x : Stage) → s.stage ≡ x → IsPlainAt x → Going s → IsWriting s.stage → CutsOff why → PutOut s.flow now [] → ((f : Flows s.first s.flow s.output s.sent) → Proven why f.bytes s.first now)
    → Causes why stopping s (record s { stage = stages.Over why; flow = now }) → Turned (turns.Ended why) stopping s (record s { stage = stages.Over why; flow = now })
put_ends stopping why s now x is plain g w cuts p proven causes =
    let f = g.flows in
    let spoke = spoke_from s.stage s why f.bytes f.said f.wrote (drop s.sent s.output) w (subst IsPlainAt (sym is) plain) cuts g.at (front_is s.first s.flow s.output s.sent f) in
    (record { flows = wrote_none s.first s.flow now s.output s.sent f p; at = (spoke.0, spoke.1, proven f) }, refl, causes)

-- one that is turned away can't go on writing
put_away : (stopping : Bool) (s : Sight) (now : Flow) → s.stage ≡ stages.Closing ends.TooMany → Going s → PutOut s.flow now [] → Rose s.flow.write_faults now.write_faults ⊎ (stopping ≡ true)
    → Turned (turns.Ended ends.TooMany) stopping s (record s { stage = stages.Over ends.TooMany; flow = now })
put_away stopping s now is g p how =
    let f = g.flows in
    let after = wrote_none s.first s.flow now s.output s.sent f p in
    let at : At (stages.Closing ends.TooMany) s f.bytes f.said f.wrote = at_stage s (stages.Closing ends.TooMany) f.bytes f.said f.wrote is g.at in
    let a : TurnsAway s.id f.bytes f.said s.calling.told = at.1 in (
      record {
        flows = after;
        at = (at.0, spoke_away s.id ends.TooMany f.bytes f.wrote f.said (drop s.sent s.output) s.calling.told a (inl refl) (λ all. absurd all) (front_is s.first s.flow s.output s.sent f), tt);
      },
      refl,
      record {
        late = a.late;
        took = subst (Appends s.first.taken now.taken) a.nothing after.taken;
        said = inr (elim how [
          | inl rose ↦ inl (rose_since s.first.write_faults s.flow.write_faults now.write_faults f.write_faults rose)
          | inr halts ↦ inr halts
        ]);
      },
    )

abbrev Cuts : Why → Bool → Sight → Flow → Type 0
Cuts why stopping s now = Turned (turns.Ended why) stopping s (record s { stage = stages.Over why; flow = now })

cut_closing : (stopping : Bool) (why : Why) (s : Sight) (now : Flow) (closing : Why) → s.stage ≡ stages.Closing closing → Going s → IsWriting s.stage → CutsOff why → PutOut s.flow now [] → ((f : Flows s.first s.flow s.output s.sent) → Proven why f.bytes s.first now)
    → Causes why stopping s (record s { stage = stages.Over why; flow = now }) → Rose s.flow.write_faults now.write_faults ⊎ (stopping ≡ true) → Cuts (cut_off closing why) stopping s now
cut_closing stopping why s now ends.InputEnd is g w cuts p proven causes how = put_ends stopping why s now (stages.Closing ends.InputEnd) is tt g w cuts p proven causes
cut_closing stopping why s now ends.Quit is g w cuts p proven causes how = put_ends stopping why s now (stages.Closing ends.Quit) is tt g w cuts p proven causes
cut_closing stopping why s now ends.Asked is g w cuts p proven causes how = put_ends stopping why s now (stages.Closing ends.Asked) is tt g w cuts p proven causes
cut_closing stopping why s now ends.Stopped is g w cuts p proven causes how = put_ends stopping why s now (stages.Closing ends.Stopped) is tt g w cuts p proven causes
cut_closing stopping why s now (ends.Protocol kind at) is g w cuts p proven causes how = put_ends stopping why s now (stages.Closing (ends.Protocol kind at)) is tt g w cuts p proven causes
cut_closing stopping why s now ends.ReadFault is g w cuts p proven causes how = put_ends stopping why s now (stages.Closing ends.ReadFault) is tt g w cuts p proven causes
cut_closing stopping why s now ends.WriteFault is g w cuts p proven causes how = put_ends stopping why s now (stages.Closing ends.WriteFault) is tt g w cuts p proven causes
cut_closing stopping why s now ends.TooMany is g w cuts p proven causes how = put_away stopping s now is g p how
cut_closing stopping why s now ends.Spent is g w cuts p proven causes how = put_ends stopping why s now (stages.Closing ends.Spent) is tt g w cuts p proven causes
cut_closing stopping why s now ends.NoMemory is g w cuts p proven causes how = put_ends stopping why s now (stages.Closing ends.NoMemory) is tt g w cuts p proven causes

cut_from : (stopping : Bool) (why : Why) (s : Sight) (now : Flow) (x : Stage) → s.stage ≡ x → Going s → IsWriting s.stage → CutsOff why → PutOut s.flow now [] → ((f : Flows s.first s.flow s.output s.sent) → Proven why f.bytes s.first now)
    → Causes why stopping s (record s { stage = stages.Over why; flow = now }) → Rose s.flow.write_faults now.write_faults ⊎ (stopping ≡ true) → Cuts (cut_at x why) stopping s now
cut_from stopping why s now stages.Open is g w cuts p proven causes how = put_ends stopping why s now stages.Open is tt g w cuts p proven causes
cut_from stopping why s now stages.Calling is g w cuts p proven causes how = put_ends stopping why s now stages.Calling is tt g w cuts p proven causes
cut_from stopping why s now (stages.Closing closing) is g w cuts p proven causes how = cut_closing stopping why s now closing is g w cuts p proven causes how
cut_from stopping why s now (stages.Over over) is g w cuts p proven causes how = put_ends stopping why s now (stages.Over over) is tt g w cuts p proven causes

-- a write failed, or had to wait where all sessions are to end
pub put_cut : (stopping : Bool) (why end : Why) (s : Sight) (now : Flow) → end ≡ cut_at s.stage why → Going s → IsWriting s.stage → CutsOff why → PutOut s.flow now [] → ((f : Flows s.first s.flow s.output s.sent) → Proven why f.bytes s.first now)
    → Causes why stopping s (record s { stage = stages.Over why; flow = now }) → Rose s.flow.write_faults now.write_faults ⊎ (stopping ≡ true) → Cuts end stopping s now
put_cut stopping why end s now is g w cuts p proven causes how = subst (λ e. Cuts e stopping s now) (sym is) (cut_from stopping why s now s.stage refl g w cuts p proven causes how)

-- there was no memory for a write
none_away : (stopping : Bool) (s : Sight) (now : Flow) → s.stage ≡ stages.Closing ends.TooMany → Going s → PutOut s.flow now [] → Cuts ends.NoMemory stopping s now
none_away stopping s now is g p =
    let f = g.flows in
    let at : At (stages.Closing ends.TooMany) s f.bytes f.said f.wrote = at_stage s (stages.Closing ends.TooMany) f.bytes f.said f.wrote is g.at in (
      record {
        flows = wrote_none s.first s.flow now s.output s.sent f p;
        at = (at.0, spoke_away s.id ends.NoMemory f.bytes f.wrote f.said (drop s.sent s.output) s.calling.told at.1 (inr refl) (λ all. absurd all) (front_is s.first s.flow s.output s.sent f), tt);
      },
      refl,
      tt,
    )

none_closing : (stopping : Bool) (s : Sight) (now : Flow) (closing : Why) → s.stage ≡ stages.Closing closing → Going s → IsWriting s.stage → PutOut s.flow now [] → Cuts ends.NoMemory stopping s now
none_closing stopping s now ends.InputEnd is g w p = put_ends stopping ends.NoMemory s now (stages.Closing ends.InputEnd) is tt g w tt p (λ f. tt) tt
none_closing stopping s now ends.Quit is g w p = put_ends stopping ends.NoMemory s now (stages.Closing ends.Quit) is tt g w tt p (λ f. tt) tt
none_closing stopping s now ends.Asked is g w p = put_ends stopping ends.NoMemory s now (stages.Closing ends.Asked) is tt g w tt p (λ f. tt) tt
none_closing stopping s now ends.Stopped is g w p = put_ends stopping ends.NoMemory s now (stages.Closing ends.Stopped) is tt g w tt p (λ f. tt) tt
none_closing stopping s now (ends.Protocol kind at) is g w p = put_ends stopping ends.NoMemory s now (stages.Closing (ends.Protocol kind at)) is tt g w tt p (λ f. tt) tt
none_closing stopping s now ends.ReadFault is g w p = put_ends stopping ends.NoMemory s now (stages.Closing ends.ReadFault) is tt g w tt p (λ f. tt) tt
none_closing stopping s now ends.WriteFault is g w p = put_ends stopping ends.NoMemory s now (stages.Closing ends.WriteFault) is tt g w tt p (λ f. tt) tt
none_closing stopping s now ends.TooMany is g w p = none_away stopping s now is g p
none_closing stopping s now ends.Spent is g w p = put_ends stopping ends.NoMemory s now (stages.Closing ends.Spent) is tt g w tt p (λ f. tt) tt
none_closing stopping s now ends.NoMemory is g w p = put_ends stopping ends.NoMemory s now (stages.Closing ends.NoMemory) is tt g w tt p (λ f. tt) tt

none_from : (stopping : Bool) (s : Sight) (now : Flow) (x : Stage) → s.stage ≡ x → Going s → IsWriting s.stage → PutOut s.flow now [] → Cuts ends.NoMemory stopping s now
none_from stopping s now stages.Open is g w p = put_ends stopping ends.NoMemory s now stages.Open is tt g w tt p (λ f. tt) tt
none_from stopping s now stages.Calling is g w p = put_ends stopping ends.NoMemory s now stages.Calling is tt g w tt p (λ f. tt) tt
none_from stopping s now (stages.Closing closing) is g w p = none_closing stopping s now closing is g w p
none_from stopping s now (stages.Over over) is g w p = put_ends stopping ends.NoMemory s now (stages.Over over) is tt g w tt p (λ f. tt) tt

pub put_none : (stopping : Bool) (s : Sight) (now : Flow) → Going s → IsWriting s.stage → PutOut s.flow now [] → Cuts ends.NoMemory stopping s now
put_none stopping s now g w p = none_from stopping s now s.stage refl g w p

-- ---- ends where nothing waits

all_written : (first now : Flow) (output : Bytes) (sent : ℕ) (f : Flows first now output sent) → length output - sent ≡ 0 → f.said ≡ f.wrote
all_written first now output sent f none = front_is first now output sent f ∙ ap (λ x. f.wrote ++ x) (drop_whole sent output (omega (arith, none))) ∙ append-nil f.wrote

-- a session that is turned away and has written its line
away_closed : (stopping : Bool) (s : Sight) (f : Flows s.first s.flow s.output s.sent) → length s.output - s.sent ≡ 0 → TurnsAway s.id f.bytes f.said s.calling.told → TurnedAway (stopping ≡ true) s.id s.first s.flow
away_closed stopping s f none a = record {
  late = a.late;
  took = subst (Appends s.first.taken s.flow.taken) a.nothing f.taken;
  said = inl (subst (Appends s.first.written s.flow.written) (sym (all_written s.first s.flow s.output s.sent f none) ∙ a.line) f.written);
}

-- what an end says of it, where all is written
record EndsSo (why : Why) (stopping : Bool) (s : Sight) (bytes wrote : Bytes) : Type 0 where
  spoke : Spoke (session_of s.id why bytes wrote) (told_items s.calling.told)
  causes : Causes why stopping s (record s { stage = stages.Over why })

ends_so : (why : Why) (stopping : Bool) (s : Sight) (f : Flows s.first s.flow s.output s.sent) → length s.output - s.sent ≡ 0 → EndsItself why → ClosesAs why s.id f.bytes f.said s.calling.told → EndsSo why stopping s f.bytes f.wrote
ends_so ends.InputEnd stopping s f none e c = absurd e
ends_so ends.Quit stopping s f none e c = record { spoke = spoke_closed s.id ends.Quit f.bytes f.wrote f.said s.calling.told c (all_written s.first s.flow s.output s.sent f none); causes = tt }
ends_so ends.Asked stopping s f none e c = record { spoke = spoke_closed s.id ends.Asked f.bytes f.wrote f.said s.calling.told c (all_written s.first s.flow s.output s.sent f none); causes = tt }
ends_so ends.Stopped stopping s f none e c = absurd e
ends_so (ends.Protocol kind at) stopping s f none e c = record { spoke = spoke_closed s.id (ends.Protocol kind at) f.bytes f.wrote f.said s.calling.told c (all_written s.first s.flow s.output s.sent f none); causes = tt }
ends_so ends.ReadFault stopping s f none e c = absurd e
ends_so ends.WriteFault stopping s f none e c = absurd e
ends_so ends.TooMany stopping s f none e c = record { spoke = spoke_away s.id ends.TooMany f.bytes f.wrote f.said [] s.calling.told c (inl refl) (λ all. refl) (all_written s.first s.flow s.output s.sent f none ∙ sym (append-nil f.wrote)); causes = away_closed stopping s f none c }
ends_so ends.Spent stopping s f none e c = absurd e
ends_so ends.NoMemory stopping s f none e c = absurd e

pub closed : (stopping : Bool) (why : Why) (s : Sight) → Going s → s.stage ≡ stages.Closing why → length s.output - s.sent ≡ 0 → Turned (turns.Ended why) stopping s (record s { stage = stages.Over why })
closed stopping why s g eq none =
    let f = g.flows in
    let at : At (stages.Closing why) s f.bytes f.said f.wrote = at_stage s (stages.Closing why) f.bytes f.said f.wrote eq g.at in
    let so = ends_so why stopping s f none at.3 at.1 in
    (record { flows = f; at = (at.0, so.spoke, at.2) }, refl, so.causes)

pub stopped : (stopping : Bool) (s : Sight) → Going s → s.stage ≡ stages.Open → stopping ≡ true → Turned (turns.Ended ends.Stopped) stopping s (record s { stage = stages.Over ends.Stopped })
stopped stopping s g eq is =
    let f = g.flows in
    let at : At stages.Open s f.bytes f.said f.wrote = at_stage s stages.Open f.bytes f.said f.wrote eq g.at in
    (record { flows = f; at = (at.0, spoke_stopped s.id ends.Stopped f.bytes f.wrote f.said (drop s.sent s.output) s.calling.told s.state s.stream.rest at.1.walked tt (front_is s.first s.flow s.output s.sent f), tt) }, refl, is)

-- there is no room for a reply
pub starved : (stopping : Bool) (s : Sight) → Going s → s.stage ≡ stages.Open → Turned (turns.Ended ends.NoMemory) stopping s (record s { stage = stages.Over ends.NoMemory })
starved stopping s g eq =
    let f = g.flows in
    let at : At stages.Open s f.bytes f.said f.wrote = at_stage s stages.Open f.bytes f.said f.wrote eq g.at in
    (record { flows = f; at = (at.0, spoke_stopped s.id ends.NoMemory f.bytes f.wrote f.said (drop s.sent s.output) s.calling.told s.state s.stream.rest at.1.walked tt (front_is s.first s.flow s.output s.sent f), tt) }, refl, tt)

-- ---- reads

-- this piece was taken
abbrev read_piece : (first old now : Flow) (output : Bytes) (sent : ℕ) (piece : Bytes) → Flows first old output sent → TookIn old now piece → Flows first now output sent
read_piece first old now output sent piece f p = record {
  bytes = f.bytes ++ piece;
  wrote = f.wrote;
  said = f.said;
  gone = f.gone;
  taken = Appends-trans first.taken old.taken now.taken f.bytes piece f.taken p.taken;
  written = subst (λ x. Appends first.written x f.wrote) (sym p.written) f.written;
  read_faults = omega (arith, f.read_faults, p.read_faults);
  write_faults = omega (arith, f.write_faults, p.write_faults);
  left = spends_more first.left old.left now.left f.bytes piece f.left p.left;
  within = f.within;
  said_is = f.said_is;
  wrote_is = f.wrote_is;
}

-- nothing was taken
abbrev read_none : (first old now : Flow) (output : Bytes) (sent : ℕ) → Flows first old output sent → TookIn old now [] → Flows first now output sent
read_none first old now output sent f p = record {
  bytes = f.bytes;
  wrote = f.wrote;
  said = f.said;
  gone = f.gone;
  taken = subst (Appends first.taken now.taken) (append-nil f.bytes) (Appends-trans first.taken old.taken now.taken f.bytes [] f.taken p.taken);
  written = subst (λ x. Appends first.written x f.wrote) (sym p.written) f.written;
  read_faults = omega (arith, f.read_faults, p.read_faults);
  write_faults = omega (arith, f.write_faults, p.write_faults);
  left = spends_same first.left old.left now.left (length f.bytes) f.left p.left;
  within = f.within;
  said_is = f.said_is;
  wrote_is = f.wrote_is;
}

fed_counted : (bytes piece rest fed : Bytes) (before : ℕ) → Counts 0 bytes before rest → fed ≡ rest ++ piece → Counts 0 (bytes ++ piece) before fed
fed_counted bytes piece rest fed before c fed_is = omega (arith, c, ap length fed_is, length-append bytes piece, length-append rest piece)

pub got_some : (stopping : Bool) (s : Sight) (now : Flow) (stream : Stream) (piece : Bytes) → Going s → s.stage ≡ stages.Open → 0 < length piece → TookIn s.flow now piece → (s.stream.failed ≡ None → stream.rest ≡ s.stream.rest ++ piece) → stream.before ≡ s.stream.before → stream.failed ≡ s.stream.failed
    → Turned turns.Moved stopping s (record s { flow = now; stream = stream })
got_some stopping s now stream piece g eq some p fed before failed =
    let f = g.flows in
    let at : At stages.Open s f.bytes f.said f.wrote = at_stage s stages.Open f.bytes f.said f.wrote eq g.at in
    let stands : Stands s.calling.told f.bytes f.said s.state s.stream = at.1 in
    let fed_is : stream.rest ≡ s.stream.rest ++ piece = fed stands.good in
    let next : At stages.Open (record s { flow = now; stream = stream }) (f.bytes ++ piece) f.said f.wrote = (
      at.0,
      record {
        good = failed ∙ stands.good;
        counted = fed_counted f.bytes piece s.stream.rest stream.rest stream.before (subst (λ n. Counts 0 f.bytes n s.stream.rest) (sym before) stands.counted) fed_is;
        walked = subst (Walked s.calling.told (f.bytes ++ piece) f.said s.state) (sym fed_is) (walked_more s.calling.told f.bytes f.said s.state s.stream.rest piece stands.walked);
      },
    ) in (
      record {
        flows = read_piece s.first s.flow now s.output s.sent piece f p;
        at = subst (λ x. At x (record s { flow = now; stream = stream }) (f.bytes ++ piece) f.said f.wrote) (sym eq) next;
      },
      subst IsGoing (sym eq) tt,
      Moves.read piece some p.taken record { left = p.left; rest = omega (arith, ap length fed_is, length-append s.stream.rest piece) },
    )

-- a piece was read, and there was no memory to keep it
pub got_no_room : (stopping : Bool) (s : Sight) (now : Flow) (stream : Stream) (piece : Bytes) → Going s → s.stage ≡ stages.Open → TookIn s.flow now piece → Turned (turns.Ended ends.NoMemory) stopping s (record s { stage = stages.Over ends.NoMemory; flow = now; stream = stream })
got_no_room stopping s now stream piece g eq p =
    let f = g.flows in
    let at : At stages.Open s f.bytes f.said f.wrote = at_stage s stages.Open f.bytes f.said f.wrote eq g.at in (
      record {
        flows = read_piece s.first s.flow now s.output s.sent piece f p;
        at = (
          at.0,
          spoke_stopped s.id ends.NoMemory (f.bytes ++ piece) f.wrote f.said (drop s.sent s.output) s.calling.told s.state (s.stream.rest ++ piece)
              (walked_more s.calling.told f.bytes f.said s.state s.stream.rest piece at.1.walked) tt (front_is s.first s.flow s.output s.sent f),
          tt,
        );
      },
      refl,
      tt,
    )

-- the link said End, all was answered and written
pub got_end : (stopping : Bool) (s : Sight) (now : Flow) → (g : Going s) → s.stage ≡ stages.Open → IsDry g.flows.bytes s.stream → length s.output - s.sent ≡ 0 → TookIn s.flow now [] → now.ended ≡ true
    → Turned (turns.Ended ends.InputEnd) stopping s (record s { stage = stages.Over ends.InputEnd; flow = now })
got_end stopping s now g eq dry none p ended =
    let f = g.flows in
    let at : At stages.Open s f.bytes f.said f.wrote = at_stage s stages.Open f.bytes f.said f.wrote eq g.at in
    let stands : Stands s.calling.told f.bytes f.said s.state s.stream = at.1 in (
      record {
        flows = read_none s.first s.flow now s.output s.sent f p;
        at = (
          at.0,
          spoke_front s.id ends.InputEnd f.bytes f.wrote (f.said ++ farewell ends.InputEnd) [] s.calling.told ends.InputEnd (inl refl) (speaks_done s.calling.told f.bytes f.said s.state s.stream.rest ends.InputEnd stands.walked dry.no_whole tt)
              (ap (λ x. x ++ []) (all_written s.first s.flow s.output s.sent f none)) (λ _. refl),
          (ended, dry.can_go_on),
        );
      },
      refl,
      tt,
    )

pub got_waits : (stopping : Bool) (s : Sight) (now : Flow) → Going s → s.stage ≡ stages.Open → TookIn s.flow now [] → Rose s.flow.waits now.waits → s.flow.left ≡ None → Turned turns.NotYet stopping s (record s { flow = now })
got_waits stopping s now g eq p rose none =
    let f = g.flows in
    let at : At stages.Open s f.bytes f.said f.wrote = at_stage s stages.Open f.bytes f.said f.wrote eq g.at in
    let next : At stages.Open (record s { flow = now }) f.bytes f.said f.wrote = at in (
      record {
        flows = read_none s.first s.flow now s.output s.sent f p;
        at = subst (λ x. At x (record s { flow = now }) f.bytes f.said f.wrote) (sym eq) next;
      },
      subst IsGoing (sym eq) tt,
      inl (rose, none),
    )

-- a read that took nothing ends it
pub got_none : (stopping : Bool) (why : Why) (s : Sight) (now : Flow) → Going s → s.stage ≡ stages.Open → TookIn s.flow now [] → MayStop why → ((f : Flows s.first s.flow s.output s.sent) → Proven why f.bytes s.first now) → Causes why stopping s (record s { stage = stages.Over why; flow = now })
    → Turned (turns.Ended why) stopping s (record s { stage = stages.Over why; flow = now })
got_none stopping why s now g eq p may proven causes =
    let f = g.flows in
    let at : At stages.Open s f.bytes f.said f.wrote = at_stage s stages.Open f.bytes f.said f.wrote eq g.at in (
      record {
        flows = read_none s.first s.flow now s.output s.sent f p;
        at = (at.0, spoke_stopped s.id why f.bytes f.wrote f.said (drop s.sent s.output) s.calling.told s.state s.stream.rest at.1.walked may (front_is s.first s.flow s.output s.sent f), proven f);
      },
      refl,
      causes,
    )

-- ---- after a turn's first part

sinks_rank : (old new : Sight) → Sinks old new → rank new.stage ≤ rank old.stage
sinks_rank old new (inl lower) = omega (arith, lower)
sinks_rank old new (inr same) = same.0

lower_from : (a b c : ℕ) → b ≤ a → c < b → c < a
lower_from a b c le lt = omega (arith, le, lt)

less_from : (a b c x y z : ℕ) → (b < a) ⊎ ((b ≤ a) × (y ≤ x)) → (c < b) ⊎ ((c ≤ b) × (z < y)) → (c < a) ⊎ ((c ≤ a) × (z < x))
less_from a b c x y z (inl p) (inl q) = inl (omega (arith, p, q))
less_from a b c x y z (inl p) (inr q) = inl (omega (arith, p, q.0))
less_from a b c x y z (inr p) (inl q) = inl (omega (arith, p.0, q))
less_from a b c x y z (inr p) (inr q) = inr (omega (arith, p.0, q.0), omega (arith, p.1, q.1))

-- what happened behind the first part happened in the turn
moves_from : (old middle new : Sight) → middle.flow ≡ old.flow → middle.calling ≡ old.calling → Splits old.stream.rest [] middle.stream.rest → Sinks old middle → Moves middle new → Moves old new
moves_from old middle new flow calling splits sinks (Moves.called call was now d) = Moves.called call (ap (λ c. c.under) (sym calling) ∙ was) now
    record { flow = d.flow ∙ flow; rest = omega (arith, d.rest, no_longer old.stream.rest middle.stream.rest [] splits); lower = lower_from (rank old.stage) (rank middle.stage) (rank new.stage) (sinks_rank old middle sinks) d.lower }
moves_from old middle new flow calling splits sinks (Moves.took words one same) = Moves.took words (splits_join old.stream.rest middle.stream.rest new.stream.rest [] (words ∷ []) splits one) (same ∙ flow)
moves_from old middle new flow calling splits sinks (Moves.read bytes some taken d) = Moves.read bytes some (subst (λ f. Appends f.taken new.flow.taken bytes) flow taken)
    record { left = subst (λ f. Spends f.left new.flow.left (length bytes)) flow d.left; rest = omega (arith, d.rest, no_longer old.stream.rest middle.stream.rest [] splits) }
moves_from old middle new flow calling splits sinks (Moves.wrote bytes some written d) = Moves.wrote bytes some (subst (λ f. Appends f.written new.flow.written bytes) flow written)
    record { left = d.left ∙ ap (λ f. f.left) flow; rest = omega (arith, d.rest, no_longer old.stream.rest middle.stream.rest [] splits); less = less_from (rank old.stage) (rank middle.stage) (rank new.stage) (waiting old) (waiting middle) (waiting new) sinks d.less }

causes_from : (why : Why) (stopping : Bool) (old middle new : Sight) → middle.flow ≡ old.flow → Causes why stopping middle new → Causes why stopping old new
causes_from ends.ReadFault stopping old middle new flow c = subst (λ f. Rose f.read_faults new.flow.read_faults) flow c
causes_from ends.WriteFault stopping old middle new flow c = subst (λ f. Rose f.write_faults new.flow.write_faults) flow c
causes_from ends.Stopped stopping old middle new flow c = c
causes_from ends.TooMany stopping old middle new flow c = c
causes_from ends.InputEnd stopping old middle new flow c = c
causes_from (ends.Protocol kind at) stopping old middle new flow c = c
causes_from ends.Quit stopping old middle new flow c = c
causes_from ends.Asked stopping old middle new flow c = c
causes_from ends.Spent stopping old middle new flow c = c
causes_from ends.NoMemory stopping old middle new flow c = c

stalls_from : (old middle new : Sight) → middle.flow ≡ old.flow → middle.calling ≡ old.calling → Stalls middle new → Stalls old new
stalls_from old middle new flow calling (inl s) = inl (subst (λ f. Rose f.waits new.flow.waits × (f.left ≡ None)) flow s)
stalls_from old middle new flow calling (inr s) = inr (subst (λ c. Rose c.stalls new.calling.stalls × (c.due ≡ false)) calling s)

-- where no request was taken, the turn goes on from what then stood
pub turned_from : (turn : Turn) (stopping : Bool) (old middle new : Sight) → middle.flow ≡ old.flow → middle.calling ≡ old.calling → Splits old.stream.rest [] middle.stream.rest → Sinks old middle → Turned turn stopping middle new → Turned turn stopping old new
turned_from turns.Moved stopping old middle new flow calling splits sinks t = (t.0, t.1, moves_from old middle new flow calling splits sinks t.2)
turned_from turns.NotYet stopping old middle new flow calling splits sinks t = (t.0, t.1, stalls_from old middle new flow calling t.2)
turned_from (turns.Ended why) stopping old middle new flow calling splits sinks t = (t.0, t.1, causes_from why stopping old middle new flow t.2)

pub on_ok : {T E P : Type 0} (r : Result T E) → false ≡ is_err r → OnOk r P → P
on_ok (Ok x) e p = p
on_ok (Err d) e p = cc
