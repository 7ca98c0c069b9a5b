use Rattle.std.proofs.Common.{[], ◌∷◌, refl, subst}
use Rattle.df_model.specs.Values.{Bytes}
use Rattle.df_model.specs.Framing.{Splits, IsPartial, BeginsWhole}
use Rattle.df_model.proofs.FramingLaws.{splits_join}
use Rattle.df_resp.specs.Stream.{rest_of}
use Rattle.df_resp.specs.Steps.{Steps}
use Rattle.df_resp.specs.declared.input.Input.{Input}
use Rattle.df_resp.proofs.CountLaws.{counts_step}
use Rattle.df_resp.proofs.NextLaws.{on_step, more_step, BadStep, bad_step}
use Rattle.df_resp.proofs.reader.Reader.next.Goals as goal

abbrev rest : Input → Bytes
rest i = rest_of i.begun i.held

pub frames-preserved : goal.frames-preserved
frames-preserved c = record {
  sound = c.in_ok-take_next.ensures.sound;
  placed = c.in_ok-take_next.ensures.placed;
  splits = on_step c.in_ok-take_next.field-0 _ _ _ _ c.frames.invariant.splits c.in_ok-take_next.ensures.steps c.in-On.is;
  counts = counts_step c.in_ok-take_next.field-0 _ _ _ _ _ _ _ c.frames.invariant.splits c.in_ok-take_next.ensures.steps c.frames.invariant.counts c.in_ok-take_next.ensures.count;
  good = c.frames.invariant.good;
}

pub returns-in-Whole-clause-ok : goal.returns-in-Whole-clause-ok
returns-in-Whole-clause-ok c = λ _.
    let old : Bytes = rest c.frames.self-inside.input in
    let new : Bytes = rest c.take_next.new.input in
    let step : Splits old (c.in-Whole.words.items ∷ []) new = subst (λ x. Steps x old new c.take_next.new.input.held) c.in-Whole.is c.in_ok-take_next.ensures.steps in
    (c.frames.invariant.good, splits_join c.args.self.now.rest old new [] (c.in-Whole.words.items ∷ []) c.frames.invariant.splits step)

pub returns-in-Whole-clause-count : goal.returns-in-Whole-clause-count
returns-in-Whole-clause-count c =
    counts_step c.in_ok-take_next.field-0 _ _ _ _ _ _ _ c.frames.invariant.splits c.in_ok-take_next.ensures.steps c.frames.invariant.counts c.in_ok-take_next.ensures.count

pub returns-in-More-clause-ok : goal.returns-in-More-clause-ok
returns-in-More-clause-ok c = λ _.
    let new : Bytes = rest c.take_next.new.input in
    let m : Splits c.args.self.now.rest [] new × IsPartial new × ¬ (BeginsWhole new) = more_step c.in_ok-take_next.field-0 _ _ _ _ c.frames.invariant.splits c.in_ok-take_next.ensures.steps c.in-More.is in
    (c.frames.invariant.good, m.0, m.1, m.2)

pub returns-in-More-clause-count : goal.returns-in-More-clause-count
returns-in-More-clause-count c =
    counts_step c.in_ok-take_next.field-0 _ _ _ _ _ _ _ c.frames.invariant.splits c.in_ok-take_next.ensures.steps c.frames.invariant.counts c.in_ok-take_next.ensures.count

pub returns-in-Bad-clause-ok : goal.returns-in-Bad-clause-ok
returns-in-Bad-clause-ok c = λ _.
    let new : Bytes = rest c.take_next.new.input in
    let b : BadStep c.args.self.now.rest new c.take_next.new.input.before c.in-Bad.kind c.saturating_add-at.result =
    bad_step c.in_ok-take_next.field-0 _ _ _ _ _ _ _ _ _ c.frames.invariant.splits c.in_ok-take_next.ensures.steps c.in-Bad.is c.in_ok-take_next.ensures.placed c.saturating_add-at.ensures in
    (refl, b.splits, b.is_bad, b.no_whole, (b.off, b.bad_at, b.place))

pub returns-in-Bad-clause-count : goal.returns-in-Bad-clause-count
returns-in-Bad-clause-count c =
    counts_step c.in_ok-take_next.field-0 _ _ _ _ _ _ _ c.frames.invariant.splits c.in_ok-take_next.ensures.steps c.frames.invariant.counts c.in_ok-take_next.ensures.count
