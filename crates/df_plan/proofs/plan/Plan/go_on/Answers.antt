use Rattle.std.proofs.Common.{refl, subst}
use Rattle.std.specs.Vec.{with_item}
use Rattle.df_rounds.specs.Standing.{then_told}
use Rattle.df_rounds.specs.Progress.{after_round}
use Rattle.df_plan.specs.Commands.{ComesBy}
use Rattle.df_plan.specs.declared.plan.Plan.{Plan}
use Rattle.df_plan.proofs.PlanLaws.{answered-so, came-round, clear-so, goes-on}
use Rattle.df_plan.proofs.plan.Plan.go_on.Goals as goal

pub go_on-next-requires : goal.go_on-next-requires
go_on-next-requires c =
    let r = c.requires.answered in record {
      answered = (
        r.3.asks.command,
        r.1.standing,
        r.2,
        answered-so c.args.shards r.0 r.1 r.2 c.args.self.now c.args.slip.now c.args.outcomes.now.items c.index_mut.result.now r.3 c.index_mut.ensures.value,
      );
    }

pub is_asking-requires : goal.is_asking-requires
is_asking-requires c =
    let r = c.requires.answered in let plan = c.args.self.now in let new = c.go_on-next.new.self in let left = c.go_on-next.new.outcomes.items in
    let now : Plan = record { turns = with_item plan.turns plan.at new; at = plan.at; command = c.go_on-next.new.command; said = plan.said } in
    let w = c.go_on-next.ensures.went r.3.asks.command r.1.standing r.2
    (answered-so c.args.shards r.0 r.1 r.2 plan c.args.slip.now c.args.outcomes.now.items c.index_mut.result.now r.3 c.index_mut.ensures.value) in
    record {
      came = (
        c.args.shards,
        r.0,
        after_round r.2 r.1,
        came-round c.go_on-next.result c.args.shards r.0 r.1 r.2 plan now c.args.slip.now c.args.outcomes.now.items left new r.3 refl refl refl w,
      );
    }

pub returns-then-is_asking : goal.returns-then-is_asking
returns-then-is_asking c =
    let r = c.requires.answered in let plan = c.args.self.now in let new = c.go_on-next.new.self in let left = c.go_on-next.new.outcomes.items in
    let now : Plan = record { turns = with_item plan.turns plan.at new; at = plan.at; command = c.go_on-next.new.command; said = plan.said } in record {
      clear = clear-so c.go_on-next.result c.args.shards r.3.asks.command (then_told r.2 r.1.standing) new left
          (c.go_on-next.ensures.went r.3.asks.command r.1.standing r.2
          (answered-so c.args.shards r.0 r.1 r.2 plan c.args.slip.now c.args.outcomes.now.items c.index_mut.result.now r.3 c.index_mut.ensures.value));
      goes = λ call progress told a.
          let w = c.go_on-next.ensures.went a.asks.command progress.standing told
          (answered-so c.args.shards call progress told plan c.args.slip.now c.args.outcomes.now.items c.index_mut.result.now a c.index_mut.ensures.value) in (
            after_round told progress,
            λ steps stands. stands,
            subst (λ b. ComesBy b c.args.shards call (after_round told progress) c.is_asking.new.self c.is_asking.new.slip) c.if-is_asking.true
                (c.is_asking.ensures.comes c.args.shards call (after_round told progress) a.some
                (came-round c.go_on-next.result c.args.shards call progress told plan now c.args.slip.now c.args.outcomes.now.items left new a refl refl refl w)),
          );
    }

pub begin_next-requires : goal.begin_next-requires
begin_next-requires c =
    let r = c.requires.answered in let plan = c.args.self.now in let new = c.go_on-next.new.self in let left = c.go_on-next.new.outcomes.items in
    let now : Plan = record { turns = with_item plan.turns plan.at new; at = plan.at; command = c.go_on-next.new.command; said = plan.said } in
    let w = c.go_on-next.ensures.went r.3.asks.command r.1.standing r.2
    (answered-so c.args.shards r.0 r.1 r.2 plan c.args.slip.now c.args.outcomes.now.items c.index_mut.result.now r.3 c.index_mut.ensures.value) in
    let b = subst (λ b. ComesBy b c.args.shards r.0 (after_round r.2 r.1) c.is_asking.new.self c.is_asking.new.slip) c.if-is_asking.false
    (c.is_asking.ensures.comes c.args.shards r.0 (after_round r.2 r.1) r.3.some
    (came-round c.go_on-next.result c.args.shards r.0 r.1 r.2 plan now c.args.slip.now c.args.outcomes.now.items left new r.3 refl refl refl w)) in
    record { some = r.3.some; rests = (r.0, b.0, b.2) }

pub returns : goal.returns
returns c =
    let r = c.requires.answered in let plan = c.args.self.now in let new = c.go_on-next.new.self in let left = c.go_on-next.new.outcomes.items in
    let now : Plan = record { turns = with_item plan.turns plan.at new; at = plan.at; command = c.go_on-next.new.command; said = plan.said } in record {
      clear = clear-so c.go_on-next.result c.args.shards r.3.asks.command (then_told r.2 r.1.standing) new left
          (c.go_on-next.ensures.went r.3.asks.command r.1.standing r.2
          (answered-so c.args.shards r.0 r.1 r.2 plan c.args.slip.now c.args.outcomes.now.items c.index_mut.result.now r.3 c.index_mut.ensures.value));
      goes = λ call progress told a.
          let w = c.go_on-next.ensures.went a.asks.command progress.standing told
          (answered-so c.args.shards call progress told plan c.args.slip.now c.args.outcomes.now.items c.index_mut.result.now a c.index_mut.ensures.value) in
          let b = subst (λ b. ComesBy b c.args.shards call (after_round told progress) c.is_asking.new.self c.is_asking.new.slip) c.if-is_asking.false
          (c.is_asking.ensures.comes c.args.shards call (after_round told progress) a.some
          (came-round c.go_on-next.result c.args.shards call progress told plan now c.args.slip.now c.args.outcomes.now.items left new a refl refl refl w)) in
          goes-on c.begin_next.result c.args.shards call (after_round told progress) b.0 c.begin_next.new.self c.begin_next.new.slip b.1
          (c.begin_next.ensures.goes call b.0 b.2);
    }
