use Rattle.df_rounds.specs.Progress.{progress_of}
use Rattle.df_plan.proofs.PlanLaws.{rests-planned}
use Rattle.df_plan.proofs.plan.Plan.set_out.Goals as goal

pub begin_next-requires-clause-rests : goal.begin_next-requires-clause-rests
begin_next-requires-clause-rests c =
    let slip = c.args.slip.now in (slip.call, progress_of slip.call, rests-planned c.args.shards c.args.self.now slip c.requires.planned)

pub returns : goal.returns
returns c =
    let slip = c.args.slip.now in record {
      goes = c.begin_next.ensures.goes slip.call (progress_of slip.call) (rests-planned c.args.shards c.args.self.now slip c.requires.planned);
    }
