-- The link since the start of a session.
use Rattle.std.proofs.Common.{ℕ, ◌+◌, ◌≤◌, ◌++◌, length, sym, subst, arith, length-append}
use Rattle.std.specs.Prelude.{Option, Some, None}
use Rattle.std.proofs.lemmas.Grind.{common_steps}
use Rattle.df_model.specs.Values.{Bytes}
use Rattle.df_model.specs.declared.session.Why.{Why}
use Rattle.df_model.specs.declared.session.Why.TheVariants as ends
use Rattle.df_outside.specs.Faults.{Rose}
use Rattle.df_outside.specs.Links.{Flow, Spends, IsOpen}
use Rattle.df_conn.specs.Turns.{Flows, Proven, EndsItself}

pub spends_none : (a : Option ℕ) → Spends a a 0
spends_none None = tt
spends_none (Some n) = omega arith

pub spends_trans : (a b c : Option ℕ) (n m : ℕ) → Spends a b n → Spends b c m → Spends a c (n + m)
spends_trans None None None n m s t = tt
spends_trans (Some x) (Some y) (Some z) n m s t = omega (arith, s, t)
spends_trans None None (Some z) n m s t = absurd t
spends_trans None (Some y) c n m s t = absurd s
spends_trans (Some x) None c n m s t = absurd s
spends_trans (Some x) (Some y) None n m s t = absurd t

pub spends_more : (a b c : Option ℕ) (xs ys : Bytes) → Spends a b (length xs) → Spends b c (length ys) → Spends a c (length (xs ++ ys))
spends_more a b c xs ys s t = subst (Spends a c) (sym (length-append xs ys)) (spends_trans a b c (length xs) (length ys) s t)

pub spends_same : (a b c : Option ℕ) (n : ℕ) → Spends a b n → Spends b c 0 → Spends a c n
spends_same None None None n s t = tt
spends_same (Some x) (Some y) (Some z) n s t = omega (arith, s, t)
spends_same None None (Some z) n s t = absurd t
spends_same None (Some y) c n s t = absurd s
spends_same (Some x) None c n s t = absurd s
spends_same (Some x) (Some y) None n s t = absurd t

pub rose_since : (first old now : ℕ) → first ≤ old → Rose old now → Rose first now
rose_since first old now le rose = grind (arith, common_steps)

-- a read failed
pub proven_read_fault : (first old now : Flow) (output : Bytes) (sent : ℕ) (f : Flows first old output sent) → IsOpen old now → Rose old.read_faults now.read_faults → Proven ends.ReadFault f.bytes first now
proven_read_fault first old now output sent f stays rose = (rose_since first.read_faults old.read_faults now.read_faults f.read_faults rose, stays.now)

-- a write failed
pub proven_write_fault : (first old now : Flow) (output : Bytes) (sent : ℕ) (f : Flows first old output sent) → Rose old.write_faults now.write_faults → Proven ends.WriteFault f.bytes first now
proven_write_fault first old now output sent f rose = rose_since first.write_faults old.write_faults now.write_faults f.write_faults rose

-- an end for which nothing has to happen looks at no link
pub proven_itself : (why : Why) (bytes : Bytes) (first old now : Flow) → EndsItself why → Proven why bytes first old → Proven why bytes first now
proven_itself ends.Quit bytes first old now e p = tt
proven_itself ends.Asked bytes first old now e p = tt
proven_itself (ends.Protocol kind at) bytes first old now e p = p
proven_itself ends.InputEnd bytes first old now e p = absurd e
proven_itself ends.Stopped bytes first old now e p = absurd e
proven_itself ends.ReadFault bytes first old now e p = absurd e
proven_itself ends.WriteFault bytes first old now e p = absurd e
proven_itself ends.TooMany bytes first old now e p = tt
proven_itself ends.Spent bytes first old now e p = absurd e
proven_itself ends.NoMemory bytes first old now e p = absurd e
