-- A turn in which no request was taken.
use Rattle.std.proofs.Common.{◌≡◌, inr, arith, refl, subst}
use Rattle.std.specs.Prelude.{Bool}
use Rattle.df_model.specs.declared.session.Turn.{Turn}
use Rattle.df_model.proofs.FramingLaws.{no_split}
use Rattle.df_conn.specs.Turns.{Sight, Going, IsWriting, Rests, Turned}
use Rattle.df_conn.specs.declared.conn.Stage.{Stage}
use Rattle.df_conn.specs.declared.conn.Stage.TheVariants as stages
use Rattle.df_conn.proofs.LinkLaws.{turned_from}

pub rests_going : (x : Stage) (old new : Sight) → Rests x old new → Going new
rests_going stages.Open old new r = r.0.0
rests_going (stages.Closing why) old new r = r.0
rests_going stages.Calling old new r = absurd r
rests_going (stages.Over why) old new r = absurd r

pub rests_writing : (x : Stage) (old new : Sight) → Rests x old new → IsWriting x
rests_writing stages.Open old new r = tt
rests_writing (stages.Closing why) old new r = tt
rests_writing stages.Calling old new r = absurd r
rests_writing (stages.Over why) old new r = absurd r

-- the turn goes on from there
pub rests_turned : (x : Stage) (turn : Turn) (stopping : Bool) (old middle new : Sight) → Rests x old middle → Turned turn stopping middle new → Turned turn stopping old new
rests_turned stages.Open turn stopping old middle new r t = turned_from turn stopping old middle new r.2 r.3 r.4 r.5 t
rests_turned (stages.Closing why) turn stopping old middle new r t = turned_from turn stopping old middle new r.1 r.2 r.3 r.4 t
rests_turned stages.Calling turn stopping old middle new r t = absurd r
rests_turned (stages.Over why) turn stopping old middle new r t = absurd r

pub rests_open : (x : Stage) (old new : Sight) → Rests x old new → x ≡ stages.Open → Rests stages.Open new new
rests_open x old new r eq =
    let o : Rests stages.Open old new = subst (λ y. Rests y old new) eq r in
    (o.0, o.1, refl, refl, no_split new.stream.rest, inr (omega arith, omega arith))
