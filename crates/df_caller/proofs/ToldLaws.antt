-- A walk looks at the calls and replies of its items alone.
use Rattle.std.proofs.Common.{◌≡◌, List, [], ◌∷◌, ◌++◌, refl, sym, ap, subst, ◌∙◌}
use Rattle.df_model.specs.Words.{Words}
use Rattle.df_model.specs.Session.{State, Given}
use Rattle.df_model.specs.History.{Item}
use Rattle.df_model.specs.Output.{Walk, SessionOutput, done, stopped, parted, left, replied, called, not_run, not_taken, turned_away}
use Rattle.df_model.specs.declared.session.Why.{Why}
use Rattle.df_model.specs.declared.reply.Reply.{Reply}
use Rattle.df_caller.specs.Told.{Told, told_item, told_items, Alike, SpokenAlike}

pub walk_alike : (end : Why) (state : State) (requests : List Words) (items : List Item) (replies : List Reply) (others : List Item) →
    Walk end state requests items replies → Alike items others → Walk end state requests others replies
walk_alike end state requests items replies [] (done s last) a = done s last
walk_alike end state requests items replies (j ∷ js) (done s last) a = absurd a
walk_alike end state requests items replies [] (stopped s rs may) a = stopped s rs may
walk_alike end state requests items replies (j ∷ js) (stopped s rs may) a = absurd a
walk_alike end state requests items replies [] (parted s w rs r after step e) a = parted s w rs r after step e
walk_alike end state requests items replies (j ∷ js) (parted s w rs r after step e) a = absurd a
walk_alike end state requests items replies [] (left s w rs after step e) a = left s w rs after step e
walk_alike end state requests items replies (j ∷ js) (left s w rs after step e) a = absurd a
walk_alike end state requests items replies others (replied s w rs is r more after step rest) a =
    replied s w rs others r more after step (walk_alike end after rs is more others rest a)
walk_alike end state requests items replies [] (called s w rs i is more after step rest) a = absurd a
walk_alike end state requests items replies (j ∷ js) (called s w rs i is more after step rest) a =
    subst (λ r. Walk end s (w ∷ rs) (j ∷ js) (r ∷ more)) (sym a.1)
    (called s w rs j js more after (step ∙ ap (λ c. (Given.Calls c, after)) a.0) (walk_alike end after rs is more js rest a.2))
walk_alike end state requests items replies others (not_run s w rs is more c after step rest) a =
    not_run s w rs others more c after step (walk_alike end after rs is more others rest a)
walk_alike end state requests items replies others (not_taken s w rs is more rest) a =
    not_taken s w rs others more (walk_alike end _ rs is more others rest a)
walk_alike end state requests items replies [] (turned_away s is) a = turned_away s is
walk_alike end state requests items replies (j ∷ js) (turned_away s is) a = absurd a

pub spoken_alike : SpokenAlike
spoken_alike w items others a s =
    let output : SessionOutput s.requests s.shown items s.out = s.output in
    record {
      requests = s.requests;
      rest = s.rest;
      framed = s.framed;
      shown = s.shown;
      shows = s.shows;
      out = s.out;
      output = record { replies = output.replies; walk = walk_alike s.shown State.Ready s.requests items output.replies others output.walk a; out_is = output.out_is };
      unsent = s.unsent;
      front = s.front;
      whole = s.whole;
    }

pub told_more : (told : List Told) (t : Told) → told_items (told ++ t ∷ []) ≡ told_items told ++ told_item t ∷ []
told_more [] t = refl
told_more (x ∷ told) t = ap (λ l. told_item x ∷ l) (told_more told t)
