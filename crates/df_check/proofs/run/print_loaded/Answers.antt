use Rattle.df_check.proofs.CheckLaws.{loaded_checked, fault_checked}
use Rattle.df_check.proofs.run.print_loaded.Goals as goal

pub returns-in-Ok : goal.returns-in-Ok
returns-in-Ok g c =
    loaded_checked c.in-Ok.loaded c.tell_loaded.result (g.O.Sink.outflow c.args.out.now) (g.O.Sink.outflow c.tell_loaded.new.out) (g.K.Disk.stored c.args.disk.now) (g.K.Disk.stored c.load.new.disk) (g.K.Disk.faults c.args.disk.now) (g.K.Disk.faults c.load.new.disk)
    c.in-Ok.ensures.disk c.in-Ok.ensures.loaded c.tell_loaded.ensures

pub returns-in-Err : goal.returns-in-Err
returns-in-Err g c =
    fault_checked c.in-Err.fault c.tell_fault.result (g.O.Sink.outflow c.args.out.now) (g.O.Sink.outflow c.tell_fault.new.out) (g.K.Disk.stored c.args.disk.now) (g.K.Disk.stored c.load.new.disk) (g.K.Disk.faults c.args.disk.now) (g.K.Disk.faults c.load.new.disk)
    c.in-Err.ensures.disk c.in-Err.ensures.loaded c.tell_fault.ensures
