-- Which sessions are turned away, through a turn.
use Rattle.std.proofs.Common.{◌≡◌, Bool, true, false, refl, sym, ap, ◌∙◌}
use Rattle.df_model.specs.declared.session.Why.{Why}
use Rattle.df_model.specs.declared.session.Why.TheVariants as ends
use Rattle.df_conn.specs.Turns.{Sight, IsWriting, Rests, StaysServed, is_away, is_too_many, cut_at, cut_off}
use Rattle.df_conn.specs.declared.conn.Stage.{Stage}
use Rattle.df_conn.specs.declared.conn.Stage.TheVariants as stages

pub closed_served : (stage : Stage) (why : Why) → stage ≡ stages.Closing why → StaysServed stage (stages.Over why)
closed_served stage why is e = ap is_away is ∙ e

off_served : (closing why : Why) → is_too_many why ≡ false → is_too_many (cut_off closing why) ≡ true → is_too_many closing ≡ true
off_served ends.TooMany why plain e = refl
off_served ends.InputEnd why plain e = absurd (cc (sym plain ∙ e))
off_served ends.Quit why plain e = absurd (cc (sym plain ∙ e))
off_served ends.Asked why plain e = absurd (cc (sym plain ∙ e))
off_served ends.Stopped why plain e = absurd (cc (sym plain ∙ e))
off_served (ends.Protocol kind at) why plain e = absurd (cc (sym plain ∙ e))
off_served ends.ReadFault why plain e = absurd (cc (sym plain ∙ e))
off_served ends.WriteFault why plain e = absurd (cc (sym plain ∙ e))
off_served ends.Spent why plain e = absurd (cc (sym plain ∙ e))
off_served ends.NoMemory why plain e = absurd (cc (sym plain ∙ e))

at_served : (stage : Stage) (why : Why) → is_too_many why ≡ false → is_too_many (cut_at stage why) ≡ true → is_away stage ≡ true
at_served stages.Open why plain e = absurd (cc (sym plain ∙ e))
at_served stages.Calling why plain e = absurd (cc (sym plain ∙ e))
at_served (stages.Closing closing) why plain e = off_served closing why plain e
at_served (stages.Over over) why plain e = absurd (cc (sym plain ∙ e))

-- a session that can't go on writing
pub cut_served : (stage : Stage) (why cut : Why) → cut ≡ cut_at stage why → is_too_many why ≡ false → StaysServed stage (stages.Over cut)
cut_served stage why cut is plain e = at_served stage why plain (ap is_too_many (sym is) ∙ e)

-- nothing is closed or ended
pub same_served : (stage : Stage) → IsWriting stage → StaysServed stage stage
same_served stages.Open w = refl
same_served stages.Calling w = absurd w
same_served (stages.Closing why) w = refl
same_served (stages.Over why) w = absurd w

-- no request was taken, and then the rest of the turn
pub served_through : (old middle new : Stage) (s m : Sight) → Rests middle s m → StaysServed old middle → StaysServed middle new → StaysServed old new
served_through old stages.Open stages.Open s m r f g = f
served_through old stages.Open stages.Calling s m r f g = f
served_through old stages.Open (stages.Closing why) s m r f g = g ∙ sym f
served_through old stages.Open (stages.Over why) s m r f g = λ e. absurd (cc (g e))
served_through old (stages.Closing closing) stages.Open s m r f g = sym f ∙ g
served_through old (stages.Closing closing) stages.Calling s m r f g = sym f ∙ g
served_through old (stages.Closing closing) (stages.Closing why) s m r f g = g ∙ f
served_through old (stages.Closing closing) (stages.Over why) s m r f g = λ e. sym f ∙ g e
served_through old stages.Calling new s m r f g = absurd r
served_through old (stages.Over over) new s m r f g = absurd r
