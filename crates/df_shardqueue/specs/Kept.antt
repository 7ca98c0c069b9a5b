-- The rule of a queue: its items have one mark, and each is pushed and popped once, in one order.
use Rattle.std.specs.Prelude.{◌≡◌, ℕ, ◌<◌, ◌≤◌, List, [], ◌++◌, length, Option, Some, None, Bool, true, false}
use mathlib.Core.Option.{some}
use lib.ListN.{get_elem?}
use Rattle.df_shardqueue.specs.declared.view.View.{View}
use Rattle.df_shardqueue.specs.Placed.{Each, Climbs, StandsIn, GrewBy, merged, weigh, below}
use Rattle.df_shardqueue.specs.Shares.{Share, share, half, together, all_of_it, IsAll, doubled, units, total}
use Rattle.df_shardqueue.specs.Told.{Told}

abbrev pub is_chosen : {K : Type 0} → Option K → Bool
is_chosen None = false
is_chosen (Some m) = true

module _ {M K : Type 0} where
  abbrev pub share_of : View M K → Share
  share_of v = share v.part v.cuts

  abbrev pub seen : Option K → Share → List (ℕ × M) → List (ℕ × M) → View M K
  seen m s put taken = record { mark = m; part = s.part; cuts = s.cuts; sent = put; taken = taken }

  -- what the first pass sees before the mark is chosen
  abbrev pub at_first : View M K
  at_first = seen None all_of_it [] []

  -- what a pass sees that was joined into another
  abbrev pub spent : View M K
  spent = seen None (share 0 0) [] []

  -- it was not joined into another, and the mark is chosen
  abbrev pub Lives : View M K → Type 0
  Lives v = (0 < v.part) × (is_chosen v.mark ≡ true)

  -- what a pass is told of the items that the queue holds at a moment
  abbrev pub told : View M K → List M → Type 0
  told v items = Told (IsAll (share_of v)) v.sent v.taken items

  -- the view after a further pass was made, and that of the further pass
  abbrev pub halved : View M K → View M K
  halved v = seen v.mark (half (share_of v)) v.sent v.taken

  abbrev pub fresh : View M K → View M K
  fresh v = seen v.mark (half (share_of v)) [] []

  abbrev pub joined : View M K → View M K → View M K
  joined v w = seen v.mark (together (share_of v) (share_of w)) (merged w.sent v.sent) (merged w.taken v.taken)

  -- after a push of x
  abbrev pub Pushed : View M K → M → View M K → Type 0
  Pushed v x w = (w ≡ seen v.mark (share_of v) w.sent v.taken) × GrewBy x v.sent w.sent

  -- after a pop of x
  abbrev pub Popped : (M → K) → View M K → M → View M K → Type 0
  Popped mark v x w = (v.mark ≡ Some (mark x)) × (w ≡ seen v.mark (share_of v) v.sent w.taken) × GrewBy x v.taken w.taken

  -- what a view has to do with the order of all items, of which those gone were popped
  pub record Knows (chosen : Option K) (all gone : List M) (depth : ℕ) (v : View M K) : Type 0 where
    pub named : 0 < v.part → v.mark ≡ chosen
    pub sent_idle : v.part ≡ 0 → v.sent ≡ []
    pub taken_idle : v.part ≡ 0 → v.taken ≡ []
    pub deep : v.cuts ≤ depth
    pub sent_climbs : Climbs v.sent
    pub taken_climbs : Climbs v.taken
    pub sent_stands : Each (StandsIn all) v.sent
    pub taken_stands : Each (StandsIn gone) v.taken

-- each of the items has this mark
abbrev pub HaveMark : {M K : Type 0} → (M → K) → Option K → List M → Type 0
HaveMark mark chosen = Each (λ x. Some (mark x) ≡ chosen)

-- Those gone and then those in the queue are all that was ever pushed. All have the mark. The passes pushed each place once and popped each place of those gone once, and their shares make a whole
pub record Kept {M K : Type 0} (mark : M → K) (items : List M) (views : List (View M K)) : Type 0 where
  pub chosen : Option K
  pub gone : List M
  pub depth : ℕ
  pub marked : HaveMark mark chosen (gone ++ items)
  pub known : (port : ℕ) (v : View M K) → get_elem? views port ≡ some v → Knows chosen (gone ++ items) gone depth v
  pub sent_once : (h : ℕ → ℕ) → total (λ (v : View M K). weigh h v.sent) views ≡ below h (length (gone ++ items))
  pub taken_once : (h : ℕ → ℕ) → total (λ (v : View M K). weigh h v.taken) views ≡ below h (length gone)
  pub shared : total (λ (v : View M K). units depth (share_of v)) views ≡ doubled 1 depth
