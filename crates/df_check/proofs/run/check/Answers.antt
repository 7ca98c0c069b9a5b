use Rattle.df_check.specs.Check.{CheckRun}
use Rattle.df_check.proofs.CheckLaws.{after_choice}
use Rattle.df_check.proofs.run.check.Goals as goal

pub returns-in-Ok : goal.returns-in-Ok
returns-in-Ok g c =
    let run : CheckRun = record {
      status = c.print_loaded.result;
      output_before = g.O.Sink.outflow c.args.out.now;
      output = g.O.Sink.outflow c.print_loaded.new.out;
      stored_before = g.K.Disk.stored c.choose.new.self;
      stored = g.K.Disk.stored c.print_loaded.new.disk;
      faults_before = g.K.Disk.faults c.choose.new.self;
      faults = g.K.Disk.faults c.print_loaded.new.disk;
    } in
    after_choice run (g.K.Disk.stored c.args.disk.now) (g.K.Disk.faults c.args.disk.now) c.in-Ok.ensures.0 c.in-Ok.ensures.1 c.print_loaded.ensures
