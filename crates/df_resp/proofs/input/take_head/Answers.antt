use Rattle.df_resp.proofs.StepLaws.{line_seen}
use Rattle.df_resp.proofs.input.take_head.Goals as goal

pub returns-in-Whole-clause-sound : goal.returns-in-Whole-clause-sound
returns-in-Whole-clause-sound c =
    (line_seen c.args.held.now c.advance.new.self c.as_slice.result.now c.in-Whole.count c.in-Whole.used c.args.begun.now.missing c.args.begun.now.total c.args.begun.now.words.items
    c.requires.sound c.requires.between c.as_slice.ensures c.in-Whole.ensures c.advance.ensures).sound

pub returns-in-Whole-clause-steps : goal.returns-in-Whole-clause-steps
returns-in-Whole-clause-steps c =
    (line_seen c.args.held.now c.advance.new.self c.as_slice.result.now c.in-Whole.count c.in-Whole.used c.args.begun.now.missing c.args.begun.now.total c.args.begun.now.words.items
    c.requires.sound c.requires.between c.as_slice.ensures c.in-Whole.ensures c.advance.ensures).splits

pub returns-in-Whole-clause-same : goal.returns-in-Whole-clause-same
returns-in-Whole-clause-same c =
    (line_seen c.args.held.now c.advance.new.self c.as_slice.result.now c.in-Whole.count c.in-Whole.used c.args.begun.now.missing c.args.begun.now.total c.args.begun.now.words.items
    c.requires.sound c.requires.between c.as_slice.ensures c.in-Whole.ensures c.advance.ensures).same
