use Rattle.std.proofs.Common.{sym}
use Rattle.std.proofs.lemmas.Result.{IfOk-weaker}
use Rattle.df_turn.proofs.BeginLaws.{naming, ready_alone, ready_clears, ready_counts, ready_cuts, ready_names, ready_nowhere, ready_reading}
use Rattle.df_turn.proofs.turn.Turn.new.Goals as goal

pub read_turn-requires : goal.read_turn-requires
read_turn-requires c = naming c.args.shards c.args.command.now c.args.keys.now (sym c.in-Spread.ensures) (c.requires.keys (sym c.in-Spread.ensures))

pub returns-in-Nowhere : goal.returns-in-Nowhere
returns-in-Nowhere c =
    IfOk-weaker c.bare_turn.result _ _ (λ turn b. ready_nowhere c.args.shards c.args.command.now turn (sym c.in-Nowhere.ensures) b) c.bare_turn.ensures

pub returns-in_ok-room-in-Alone : goal.returns-in_ok-room-in-Alone
returns-in_ok-room-in-Alone c =
    IfOk-weaker c.bare_turn-in-Alone.result _ _ (λ turn b. ready_alone c.args.shards c.in-Alone.shard _ c.args.command.now turn (sym c.in-Alone.ensures) b) c.bare_turn-in-Alone.ensures

pub returns-in-Names : goal.returns-in-Names
returns-in-Names c =
    IfOk-weaker c.whole_turn.result _ _ (λ turn b. ready_names c.args.shards c.args.command.now turn (sym c.in-Names.ensures) b) c.whole_turn.ensures

pub returns-in-Counts : goal.returns-in-Counts
returns-in-Counts c =
    IfOk-weaker c.whole_turn-in-Counts.result _ _ (λ turn b. ready_counts c.args.shards c.args.command.now turn (sym c.in-Counts.ensures) b)
    c.whole_turn-in-Counts.ensures

pub returns-in-Cuts : goal.returns-in-Cuts
returns-in-Cuts c =
    IfOk-weaker c.whole_turn-in-Cuts.result _ _ (λ turn b. ready_cuts c.args.shards c.args.command.now turn (sym c.in-Cuts.ensures) b)
    c.whole_turn-in-Cuts.ensures

pub returns-in-Clears : goal.returns-in-Clears
returns-in-Clears c =
    IfOk-weaker c.whole_turn-in-Clears.result _ _ (λ turn b. ready_clears c.args.shards c.args.command.now turn (sym c.in-Clears.ensures) b)
    c.whole_turn-in-Clears.ensures

pub returns-in-Spread : goal.returns-in-Spread
returns-in-Spread c =
    IfOk-weaker c.read_turn.result _ _
    (λ turn b. ready_reading c.args.shards c.args.command.now c.args.keys.now (sym c.in-Spread.ensures) (c.requires.keys (sym c.in-Spread.ensures)) turn b)
    c.read_turn.ensures
