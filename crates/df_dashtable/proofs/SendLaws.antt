-- Steps of a change, one after another, and what they leave to a running cut.
use Rattle.std.proofs.Common.{◌≡◌, List, [], ◌++◌, Bool, true, sym, subst, append_assoc}
use Rattle.std.specs.Ordering.{nat_cmp}
use Rattle.std.specs.Cmp.Lexicographic.{slice_cmp}
use Rattle.std.specs.FinMap.{FinMap}
use Rattle.std.proofs.lemmas.List.{append-nil}
use Rattle.df_model.specs.Values.{Bytes}
use Rattle.df_dashtable.specs.Visible.{Spells}
use Rattle.df_dashtable.specs.Moves.{Moves}
use Rattle.df_dashtable.specs.Tables.{Table, Sends, older}
use Rattle.df_dashtable.proofs.CutLaws.{moves_none, moves_more, cut_step}

module _ {V : Type 0} (takes : Bool) where
  pub sends_none : (h : List (Bytes × V) → Type 0) (t : Table V) → Sends takes h h t t
  sends_none h t = record { moved = []; sent = λ _ es e. subst h (sym (append-nil es)) e; moves = λ _. moves_none (older t) }

  -- a change that leaves the older entries
  pub sends_same : {h i : List (Bytes × V) → Type 0} {t u v : Table V} → Sends takes h i t u → older v ≡ older u → Sends takes h i t v
  sends_same {h} {i} {t} {u} {v} s same = record {
    moved = s.moved;
    sent = s.sent;
    moves = λ taken. subst (λ (xs : List (Bytes × V)). Moves (older t) s.moved xs) (sym same) (s.moves taken);
  }

  pub sends_more : {h i j : List (Bytes × V) → Type 0} {t u v : Table V} → Sends takes h i t u → Sends takes i j u v → Sends takes h j t v
  sends_more {h} {i} {j} {t} {u} {v} a b = record {
    moved = a.moved ++ b.moved;
    sent = λ taken es e. subst j (append_assoc es a.moved b.moved) (b.sent taken (es ++ a.moved) (a.sent taken es e));
    moves = λ taken. moves_more (older t) a.moved (older u) b.moved (older v) (a.moves taken) (b.moves taken);
  }

  -- the law of the cut: what was handed out, what waits and what is older spell the keyspace
  pub record CutLaw (handed : List (Bytes × V)) (holds : List (Bytes × V) → Type 0) (t : Table V) (K : FinMap (slice_cmp nat_cmp) V) : Type 0 where
    pub waits : List (Bytes × V)
    pub held : holds waits
    pub law : Spells ((handed ++ waits) ++ older t) K

  pub cut_sends : (handed : List (Bytes × V)) {h i : List (Bytes × V) → Type 0} {t u : Table V} (K : FinMap (slice_cmp nat_cmp) V)
      → takes ≡ true → Sends takes h i t u → CutLaw handed h t K → CutLaw handed i u K
  cut_sends handed {h} {i} {t} {u} K taken s c = record {
    waits = c.waits ++ s.moved;
    held = s.sent taken c.waits c.held;
    law = subst (λ (xs : List (Bytes × V)). Spells (xs ++ older u) K) (append_assoc handed c.waits s.moved)
        (cut_step (handed ++ c.waits) (older t) s.moved (older u) K c.law (s.moves taken));
  }
