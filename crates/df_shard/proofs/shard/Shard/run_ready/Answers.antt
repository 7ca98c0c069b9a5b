use Rattle.std.proofs.Common.{◌≡◌, ◌≢◌, ◌∙◌, ap, sym, refl, subst, arith, ℕ, List, true, Bool}
use Rattle.std.specs.Prelude.{Option, Some, None, map, slice_set, if◌then◌else◌}
use Rattle.std.specs.Option.{option_map}
use Rattle.df_model.specs.Values.{Bytes}
use Rattle.df_log.specs.Acts.{Act, Told}
use Rattle.df_log.specs.declared.entry.Entry.{Entry}
use Rattle.df_book.specs.Passes.{after_entry}
use Rattle.df_table.specs.Tables.{Roomy}
use Rattle.df_hops.specs.Parts.{shards_in}
use Rattle.df_hops.specs.Shown.{act_in, bytes_in, due_in}
use Rattle.df_hops.specs.Came.{DueAs, given, given_as, may_want_in, said_in, told_in}
use Rattle.df_hops.specs.declared.answer.AnswerBody.TheVariants as answers
use Rattle.df_shard.specs.Fields.{view_of}
use Rattle.df_shard.specs.Facts.{Facts}
use Rattle.df_shard.specs.Holds.{View, Holds, Wait, staged_at, staged_of, wait_at, wait_of}
use Rattle.df_shard.specs.Changes.{done_wait, with_wait}
use Rattle.df_shard.specs.Leaving.{IsGone}
use Rattle.df_shard.specs.MayRun.{is_ready}
use Rattle.df_shard.specs.Served.{IsSaid, entry_of, is_quick_came}
use Rattle.df_shard.proofs.Leaves.{gone-left}
use Rattle.df_shard.proofs.Recorded.{Enters, pick}
use Rattle.df_shard.proofs.Served.{DidHop, HopShown, InTurn, bare-here, due-part, due-quick, hop-enters, hop-shown, linked-here, ready-turn, serves}
use Rattle.df_shard.proofs.Waitings.{at-index, at-with, at-with-else, at-without-else, puts-here, set-with}
use Rattle.df_shard.proofs.shard.Shard.run_ready.Goals as goal

pub serve-turned-requires-clause-linked : goal.serve-turned-requires-clause-linked
serve-turned-requires-clause-linked c a armed =
    let x : View = view_of c.self.inside in let w0 = c.index_mut-call.result.now in let w : Wait = wait_of w0 in
    let here : wait_at w.number x.waiting ≡ Some w = at-index c.self.inside.waiting.items c.in-Some.at w0 c.self.invariant.once c.in-Some.ensures.within c.index_mut-call.ensures.value in
    let ready : is_ready x.places w ≡ true = subst (λ v. is_ready x.places (wait_of v) ≡ true) (sym c.index_mut-call.ensures.value) (c.in-Some.ensures.some w0) in
    linked-here x w a c.self.invariant (ready-turn x w a here ready armed)

pub serve-turned-requires-clause-kept : goal.serve-turned-requires-clause-kept
serve-turned-requires-clause-kept c =
    let x : View = view_of c.self.inside in let w0 = c.index_mut-call.result.now in let w : Wait = wait_of w0 in
    let here : wait_at w.number x.waiting ≡ Some w = at-index c.self.inside.waiting.items c.in-Some.at w0 c.self.invariant.once c.in-Some.ensures.within c.index_mut-call.ensures.value in
    omega (arith, puts-here w.number x.waiting w here, c.self.invariant.room)

pub enter-receipt-requires-clause-drawn : goal.enter-receipt-requires-clause-drawn
enter-receipt-requires-clause-drawn c =
    let x : View = view_of c.self.inside in let w0 = c.index_mut-call.result.now in let w : Wait = wait_of w0 in let s = c.serve-turned.ensures in
    let here : wait_at w.number x.waiting ≡ Some w = at-index c.self.inside.waiting.items c.in-Some.at w0 c.self.invariant.once c.in-Some.ensures.within c.index_mut-call.ensures.value in
    let ready : is_ready x.places w ≡ true = subst (λ v. is_ready x.places (wait_of v) ≡ true) (sym c.index_mut-call.ensures.value) (c.in-Some.ensures.some w0) in
    (subst (λ (e : Entry). Enters e x.pass) (sym s.entry) (hop-enters x w s.ran s.told c.self.invariant (ready-turn x w s.ran here ready s.armed))).0

pub enter-receipt-requires-clause-running : goal.enter-receipt-requires-clause-running
enter-receipt-requires-clause-running c =
    let x : View = view_of c.self.inside in let w0 = c.index_mut-call.result.now in let w : Wait = wait_of w0 in let s = c.serve-turned.ensures in
    let here : wait_at w.number x.waiting ≡ Some w = at-index c.self.inside.waiting.items c.in-Some.at w0 c.self.invariant.once c.in-Some.ensures.within c.index_mut-call.ensures.value in
    let ready : is_ready x.places w ≡ true = subst (λ v. is_ready x.places (wait_of v) ≡ true) (sym c.index_mut-call.ensures.value) (c.in-Some.ensures.some w0) in
    (subst (λ (e : Entry). Enters e x.pass) (sym s.entry) (hop-enters x w s.ran s.told c.self.invariant (ready-turn x w s.ran here ready s.armed))).1

pub enter-receipt-requires-clause-fresh : goal.enter-receipt-requires-clause-fresh
enter-receipt-requires-clause-fresh c =
    let x : View = view_of c.self.inside in let w0 = c.index_mut-call.result.now in let w : Wait = wait_of w0 in let s = c.serve-turned.ensures in
    let here : wait_at w.number x.waiting ≡ Some w = at-index c.self.inside.waiting.items c.in-Some.at w0 c.self.invariant.once c.in-Some.ensures.within c.index_mut-call.ensures.value in
    let ready : is_ready x.places w ≡ true = subst (λ v. is_ready x.places (wait_of v) ≡ true) (sym c.index_mut-call.ensures.value) (c.in-Some.ensures.some w0) in
    (subst (λ (e : Entry). Enters e x.pass) (sym s.entry) (hop-enters x w s.ran s.told c.self.invariant (ready-turn x w s.ran here ready s.armed))).2

pub invariant_of-self : goal.invariant_of-self
invariant_of-self c =
    let x : View = view_of c.self.inside in let items = c.self.inside.waiting.items in let w0 = c.index_mut-call.result.now in let w : Wait = wait_of w0 in let s = c.serve-turned.ensures in
    let here : wait_at w.number x.waiting ≡ Some w = at-index items c.in-Some.at w0 c.self.invariant.once c.in-Some.ensures.within c.index_mut-call.ensures.value in
    let ready : is_ready x.places w ≡ true = subst (λ v. is_ready x.places (wait_of v) ≡ true) (sym c.index_mut-call.ensures.value) (c.in-Some.ensures.some w0) in
    let t : InTurn x w s.ran = ready-turn x w s.ran here ready s.armed in
    let new = c.serve-turned.new in
    let d : DidHop x w s.ran s.told new.table.keys s.changes new.table.kept = record { is_told = s.is_told; keys = s.keys; changes = s.staged; room = s.room } in
    subst (λ (v : ℕ × List Wait). Holds (record x { ran = v.0; waiting = v.1; keys = new.table.keys; kept = new.table.kept; pass = c.enter-receipt.new.pass }))
    (λ j. (sym c.max-self-inside.ensures j, sym (set-with items c.in-Some.at w0 new.call c.self.invariant.once c.in-Some.ensures.within c.index_mut-call.ensures.value ∙ ap (λ v. with_wait w.number v x.waiting) s.after) j))
    (serves x w s.ran s.told new.table.keys s.changes new.table.kept c.enter-receipt.new.pass c.self.invariant t d (c.enter-receipt.ensures.grown ∙ ap (after_entry x.pass) s.entry))

pub invariant_of-self-in-OfPart : goal.invariant_of-self-in-OfPart
invariant_of-self-in-OfPart c =
    let x : View = view_of c.self.inside in let items = c.self.inside.waiting.items in let w0 = c.index_mut-call.result.now in let w : Wait = wait_of w0 in let s = c.serve-turned.ensures in
    let here : wait_at w.number x.waiting ≡ Some w = at-index items c.in-Some.at w0 c.self.invariant.once c.in-Some.ensures.within c.index_mut-call.ensures.value in
    let ready : is_ready x.places w ≡ true = subst (λ v. is_ready x.places (wait_of v) ≡ true) (sym c.index_mut-call.ensures.value) (c.in-Some.ensures.some w0) in
    let t : InTurn x w s.ran = ready-turn x w s.ran here ready s.armed in
    let new = c.serve-turned.new in
    let d : DidHop x w s.ran s.told new.table.keys s.changes new.table.kept = record { is_told = s.is_told; keys = s.keys; changes = s.staged; room = s.room } in
    subst (λ (v : ℕ × List Wait). Holds (record x { ran = v.0; waiting = v.1; keys = new.table.keys; kept = new.table.kept; pass = c.enter-receipt.new.pass }))
    (λ j. (sym c.max-self-inside.ensures j, sym (set-with items c.in-Some.at w0 new.call c.self.invariant.once c.in-Some.ensures.within c.index_mut-call.ensures.value ∙ ap (λ v. with_wait w.number v x.waiting) s.after) j))
    (serves x w s.ran s.told new.table.keys s.changes new.table.kept c.enter-receipt.new.pass c.self.invariant t d (c.enter-receipt.ensures.grown ∙ ap (after_entry x.pass) s.entry))

pub end_quick-requires-clause-bare : goal.end_quick-requires-clause-bare
end_quick-requires-clause-bare c =
    let x : View = view_of c.self.inside in let items = c.self.inside.waiting.items in let w0 = c.index_mut-call.result.now in let w : Wait = wait_of w0 in let s = c.serve-turned.ensures in
    let here : wait_at w.number x.waiting ≡ Some w = at-index items c.in-Some.at w0 c.self.invariant.once c.in-Some.ensures.within c.index_mut-call.ensures.value in
    let ready : is_ready x.places w ≡ true = subst (λ v. is_ready x.places (wait_of v) ≡ true) (sym c.index_mut-call.ensures.value) (c.in-Some.ensures.some w0) in
    let t : InTurn x w s.ran = ready-turn x w s.ran here ready s.armed in
    let said = subst (IsSaid x.shards x.index x.keys s.ran s.told) c.in-OfQuick.is s.said in
    ap (staged_at w.number) (set-with items c.in-Some.at w0 c.serve-turned.new.call c.self.invariant.once c.in-Some.ensures.within c.index_mut-call.ensures.value ∙ ap (λ v. with_wait w.number v x.waiting) s.after)
    ∙ ap staged_of (at-with w.number (done_wait w s.ran.hop s.changes) x.waiting w refl here)
    ∙ s.bare (ap is_quick_came c.in-OfQuick.is) ∙ bare-here x w s.ran c.self.invariant t said.2

pub end_quick-requires-clause-facts : goal.end_quick-requires-clause-facts
end_quick-requires-clause-facts c =
    let x : View = view_of c.self.inside in let items = c.self.inside.waiting.items in let w0 = c.index_mut-call.result.now in let w : Wait = wait_of w0 in let s = c.serve-turned.ensures in
    let here : wait_at w.number x.waiting ≡ Some w = at-index items c.in-Some.at w0 c.self.invariant.once c.in-Some.ensures.within c.index_mut-call.ensures.value in
    let ready : is_ready x.places w ≡ true = subst (λ v. is_ready x.places (wait_of v) ≡ true) (sym c.index_mut-call.ensures.value) (c.in-Some.ensures.some w0) in
    let t : InTurn x w s.ran = ready-turn x w s.ran here ready s.armed in
    let r = c.enter-receipt.result in let n : ℕ = w.number in let act : Act = s.ran.act in
    let sh : HopShown x.index n s.ran.hop act s.ran.call (entry_of w s.ran s.told) x.shards r =
    hop-shown x w s.ran s.told c.serve-turned.result.entry c.enter-receipt.new.pass r c.self.invariant t s.entry c.enter-receipt.ensures.grown c.enter-receipt.ensures.receipt in
    let on : c.of-keys.result.value.keys ≡ x.keys = ap (λ (t : Roomy). t.keys) c.of-keys.ensures in
    let q = subst (IsSaid x.shards x.index x.keys s.ran s.told) c.in-OfQuick.is s.said in
    let is_due : due_in x.index n s.ran.hop r ≡ Some act =
    ap (λ i. due_in i n s.ran.hop r) (sym sh.shard) ∙ due-quick n s.ran.hop act s.ran.call r q.2 sh.due in
    let said : (t : Bool) → Option (Option Bytes) = λ t. if t then Some (Some c.in-OfQuick.slip.value.reply) else Some None in
    let gives-at : Option Entry → Option Told = λ o. option_map (given (shards_in r.book) r.shard c.of-keys.result.value.keys) (act_in o) in
    let same : given x.shards x.index x.keys act ≡ given (shards_in r.book) r.shard c.of-keys.result.value.keys act =
    λ j. given (sym sh.shards_are j) (sym sh.shard j) (sym on j) act in
    subst (λ h. Facts x.index n h c.ran_body-body.result) (sym s.hop)
    (subst (Facts x.index n s.ran.hop) (sym c.ran_body-body.ensures) (pick (Facts x.index n s.ran.hop) c.in-OfQuick.is_said _ _
    (λ e. record { shown = sh.shard; drawn = sh.drawn; limit = omega arith; call = refl; note = refl; told = ap said (sym e) ∙ q.0 ∙ sym (ap bytes_in sh.found); act = ap act_in sh.found ∙ sym is_due; came = ap told_in sh.found ∙ ap Some (q.1 e ∙ same) ∙ sym (ap gives-at sh.found); outcome = refl; wants = refl; part = tt })
    (λ e. record { shown = sh.shard; drawn = sh.drawn; limit = omega arith; call = refl; note = refl; told = ap said (sym e) ∙ q.0 ∙ sym (ap bytes_in sh.found); act = ap act_in sh.found ∙ sym is_due; came = refl; outcome = refl; wants = refl; part = tt })))

pub invariant_of-result : goal.invariant_of-result
invariant_of-result c =
    let x : View = view_of c.self.inside in let items = c.self.inside.waiting.items in let w0 = c.index_mut-call.result.now in let w : Wait = wait_of w0 in let s = c.serve-turned.ensures in
    let here : wait_at w.number x.waiting ≡ Some w = at-index items c.in-Some.at w0 c.self.invariant.once c.in-Some.ensures.within c.index_mut-call.ensures.value in
    let ready : is_ready x.places w ≡ true = subst (λ v. is_ready x.places (wait_of v) ≡ true) (sym c.index_mut-call.ensures.value) (c.in-Some.ensures.some w0) in
    let t : InTurn x w s.ran = ready-turn x w s.ran here ready s.armed in
    let r = c.enter-receipt.result in let n : ℕ = w.number in let act : Act = s.ran.act in
    let sh : HopShown x.index n s.ran.hop act s.ran.call (entry_of w s.ran s.told) x.shards r =
    hop-shown x w s.ran s.told c.serve-turned.result.entry c.enter-receipt.new.pass r c.self.invariant t s.entry c.enter-receipt.ensures.grown c.enter-receipt.ensures.receipt in
    let on : c.of-keys.result.value.keys ≡ x.keys = ap (λ (t : Roomy). t.keys) c.of-keys.ensures in
    let q = subst (IsSaid x.shards x.index x.keys s.ran s.told) c.in-OfPart.is s.said in
    let outcome = c.in-OfPart.outcome in
    let gives-at : Option Entry → Option Told = λ o. option_map (given_as outcome (shards_in r.book) r.shard c.of-keys.result.value.keys) (act_in o) in
    let same : given_as outcome x.shards x.index x.keys act ≡ given_as outcome (shards_in r.book) r.shard c.of-keys.result.value.keys act =
    λ j. given_as outcome (sym sh.shards_are j) (sym sh.shard j) (sym on j) act in
    let f : Facts x.index n c.serve-turned.result.hop (answers.Did outcome r c.of-keys.result) =
    subst (λ h. Facts x.index n h (answers.Did outcome r c.of-keys.result)) (sym s.hop) (record {
      shown = sh.shard;
      drawn = sh.drawn;
      limit = omega arith;
      call = refl;
      note = refl;
      told = refl;
      act = refl;
      came = ap told_in sh.found ∙ ap Some (q.0 ∙ same) ∙ sym (ap gives-at sh.found);
      outcome = ap Some q.1 ∙ sym (ap said_in sh.found);
      wants = ap (λ o. may_want_in outcome (act_in o)) sh.found ∙ q.2;
      part = subst (DueAs n s.ran.hop r) (sym sh.found) (due-part n s.ran.hop act s.ran.call r q.3 sh.due);
    }) in
    record { shown = f.shown; drawn = f.drawn; limit = f.limit; call = f.call; note = f.note; told = f.told; act = f.act; came = f.came; outcome = f.outcome; wants = f.wants; part = ∣ f.part ∣₁ }

pub returns-in-OfQuick-clause-answered : goal.returns-in-OfQuick-clause-answered
returns-in-OfQuick-clause-answered c =
    let x : View = view_of c.self.inside in let items = c.self.inside.waiting.items in let w0 = c.index_mut-call.result.now in let w : Wait = wait_of w0 in let s = c.serve-turned.ensures in
    let here : wait_at w.number x.waiting ≡ Some w = at-index items c.in-Some.at w0 c.self.invariant.once c.in-Some.ensures.within c.index_mut-call.ensures.value in
    let ready : is_ready x.places w ≡ true = subst (λ v. is_ready x.places (wait_of v) ≡ true) (sym c.index_mut-call.ensures.value) (c.in-Some.ensures.some w0) in
    let v = c.self.view_is in let a = c.end_quick.ensures.answered in (
      a.0 ∙ ap (λ (y : View). y.index) v,
      w,
      subst (λ n. wait_at n c.args.self.now.waiting ≡ Some w) (sym a.1) (sym (ap (λ (y : View). wait_at w.number y.waiting) v) ∙ here),
      sym (ap (λ (y : View). is_ready y.places w) v) ∙ ready,
      a.2,
    )

pub returns-in-OfPart-clause-answered : goal.returns-in-OfPart-clause-answered
returns-in-OfPart-clause-answered c =
    let x : View = view_of c.self.inside in let items = c.self.inside.waiting.items in let w0 = c.index_mut-call.result.now in let w : Wait = wait_of w0 in let s = c.serve-turned.ensures in
    let here : wait_at w.number x.waiting ≡ Some w = at-index items c.in-Some.at w0 c.self.invariant.once c.in-Some.ensures.within c.index_mut-call.ensures.value in
    let ready : is_ready x.places w ≡ true = subst (λ v. is_ready x.places (wait_of v) ≡ true) (sym c.index_mut-call.ensures.value) (c.in-Some.ensures.some w0) in
    let v = c.self.view_is in
    (ap (λ (y : View). y.index) v, w, sym (ap (λ (y : View). wait_at w.number y.waiting) v) ∙ here, sym (ap (λ (y : View). is_ready y.places w) v) ∙ ready, refl)

pub returns-in-OfQuick-clause-left : goal.returns-in-OfQuick-clause-left
returns-in-OfQuick-clause-left c =
    let x : View = view_of c.self.inside in let new = c.serve-turned.new in let n : ℕ = c.index_mut-call.result.now.number in
    let y : View = record x { ran = c.max-self-inside.result; waiting = map wait_of (slice_set c.self.inside.waiting.items c.in-Some.at new.call); keys = new.table.keys; kept = new.table.kept; pass = c.enter-receipt.new.pass } in
    λ e. subst (λ (v : ℕ × View). IsGone v.0 v.1) (λ j. (sym c.end_quick.ensures.answered.1 j, sym c.end_quick.ensures.left j)) (gone-left y n)

pub returns-in-OfQuick-clause-beside : goal.returns-in-OfQuick-clause-beside
returns-in-OfQuick-clause-beside c =
    let x : View = view_of c.self.inside in let items = c.self.inside.waiting.items in let w0 = c.index_mut-call.result.now in let w : Wait = wait_of w0 in let s = c.serve-turned.ensures in
    λ m ne. let other : m ≢ w.number = λ e. ne (e ∙ sym c.end_quick.ensures.answered.1) in
    ap (λ (y : View). wait_at m y.waiting) c.end_quick.ensures.left
    ∙ at-without-else w.number (map wait_of (slice_set items c.in-Some.at c.serve-turned.new.call)) m other
    ∙ ap (wait_at m) (set-with items c.in-Some.at w0 c.serve-turned.new.call c.self.invariant.once c.in-Some.ensures.within c.index_mut-call.ensures.value ∙ ap (λ v. with_wait w.number v x.waiting) s.after)
    ∙ at-with-else w.number (done_wait w s.ran.hop s.changes) x.waiting m refl other
    ∙ ap (λ (y : View). wait_at m y.waiting) c.self.view_is

pub returns-in-OfPart-clause-beside : goal.returns-in-OfPart-clause-beside
returns-in-OfPart-clause-beside c =
    let x : View = view_of c.self.inside in let items = c.self.inside.waiting.items in let w0 = c.index_mut-call.result.now in let w : Wait = wait_of w0 in let s = c.serve-turned.ensures in
    λ m other.
    ap (wait_at m) (set-with items c.in-Some.at w0 c.serve-turned.new.call c.self.invariant.once c.in-Some.ensures.within c.index_mut-call.ensures.value ∙ ap (λ v. with_wait w.number v x.waiting) s.after)
    ∙ at-with-else w.number (done_wait w s.ran.hop s.changes) x.waiting m refl other
    ∙ ap (λ (y : View). wait_at m y.waiting) c.self.view_is
