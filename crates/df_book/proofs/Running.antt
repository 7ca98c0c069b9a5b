-- What a shard needs to enter what was just drawn.
use Rattle.std.proofs.Common.{◌≡◌, ◌≢◌, ℕ, ◌<◌, ◌≤◌, false, cond, ne_eqb, List, [], ◌∷◌, ◌++◌, refl, ap, ◌∙◌, arith}
use Rattle.df_log.specs.Entries.{is_note}
use Rattle.df_log.specs.declared.entry.Entry.{Entry}
use Rattle.df_book.specs.Weights.{Each, hit}
use Rattle.df_book.specs.Logs.{at_log, IsPrefix, longer, BothSeen, uses, use_of, uses_of, HasRoom, is_passed, IsFresh}
use Rattle.df_book.specs.Draws.{draws_of, last_number}
use Rattle.df_book.specs.declared.draw.Draw.{Draw}
use Rattle.df_book.proofs.Sums.{Each-map, total-append, hit-same}
use Rattle.df_book.proofs.Logs.{whole-right}

pub last-snoc : (own : List Draw) (d : Draw) → last_number (own ++ d ∷ []) ≡ d.number
last-snoc [] d = refl
last-snoc (x ∷ []) d = refl
last-snoc (x ∷ y ∷ own) d = last-snoc (y ∷ own) d

-- a number that was told of at last is known
pub drawn-last : (known own : List Draw) (d : Draw) → 0 < draws_of d.number (known ++ (own ++ d ∷ []))
drawn-last known own d = omega (arith, total-append (λ (x : Draw). hit d.number x.number) known (own ++ d ∷ []), total-append (λ (x : Draw). hit d.number x.number) own (d ∷ []), hit-same d.number)

-- a log below a number uses none of its tickets, and has none of its hops
pub below-unused : (n : ℕ) (log : List Entry) → Each (λ (e : Entry). e.number < n) log → uses_of n log ≡ 0
below-unused n [] b = refl
below-unused n (e ∷ log) b = let none-here : use_of n e ≡ 0 = ap (λ t. cond t (uses e.act) 0) (ne_eqb e.number n (λ is. omega (arith, is, b.0))) in omega (arith, none-here, below-unused n log b.1)

pub below-fresh : (log : List Entry) (e : Entry) → Each (λ (x : Entry). x.number < e.number) log → IsFresh log e
below-fresh log e b p = Each-map (λ (x : Entry). x.number < e.number) (λ (x : Entry). is_passed x.act ≡ false → is_note x.act ≡ is_note e.act → x.number ≡ e.number → x.hop ≢ e.hop) (λ x less q kind same. absurd (omega (arith, less, same))) log b

pub below-room : (log : List Entry) (counted : List ℕ) (e : Entry) → uses e.act ≤ 1 → Each (λ (x : Entry). x.number < e.number) log → HasRoom log (counted ++ e.number ∷ []) e
below-room log counted e most b h = omega (arith, below-unused e.number log b, total-append (hit e.number) counted (e.number ∷ []), hit-same e.number, most)

-- who had seen a beginning of a log and is shown more of it has then seen that
pub sees-all : (xs shown now : List (List Entry)) (s : ℕ) (log : List Entry) → BothSeen xs shown now → at_log shown s ≡ log → IsPrefix (at_log xs s) log → at_log now s ≡ log
sees-all xs shown now s log b is p = b.longer s ∙ ap (longer (at_log xs s)) is ∙ whole-right (at_log xs s) log p
