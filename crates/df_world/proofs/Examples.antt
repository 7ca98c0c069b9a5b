-- The example run, event by event.
use Rattle.std.proofs.Common.{◌≡◌, ◌≢◌, ℕ, zero, suc, ◌<◌, true, [], inl, inr, refl, ap, ◌∙◌, subst, arith}
use Rattle.std.proofs.lemmas.Bool.{false≢true}
use Rattle.std.specs.Prelude.{is_none}
use Rattle.df_order.specs.Model.{own}
use Rattle.df_order.specs.Histories.{entries}
use Rattle.df_order.specs.Counters.{counters}
use Rattle.df_order.proofs.Puts.{put_other}
use Rattle.df_order.proofs.CounterLaws.{asked}
use Rattle.df_world.specs.World.{World, IsTaken, logs}
use Rattle.df_world.specs.Events.{Draw, Schedule, Hop, Conclude, after, CanHop}
use Rattle.df_world.specs.Example.{five, two, at_first, BothRun}

-- the first waits, then both do
abbrev one_waits : World counters
one_waits = after counters (after counters (after counters at_first (Draw 7 five.add)) (Draw 8 two.add)) (Schedule 0 1 true)

abbrev both_wait : World counters
both_wait = after counters one_waits (Schedule 0 2 true)

-- the first ran, then left
abbrev one_ran : World counters
one_ran = after counters both_wait (Hop 0 1 five)

abbrev one_left : World counters
one_left = after counters one_ran (Conclude 0 1)

-- so did the second
abbrev both_ran : World counters
both_ran = after counters one_left (Hop 0 2 two)

-- no other shard is touched
far_waiting : (t : ℕ) → t ≢ 0 → both_wait.shard t ≡ at_first.shard t
far_waiting t ne = put_other 0 t (both_wait.shard 0) one_waits.shard ne ∙ put_other 0 t (one_waits.shard 0) at_first.shard ne

far_one : (t : ℕ) → t ≢ 0 → one_ran.shard t ≡ at_first.shard t
far_one t ne = put_other 0 t (one_ran.shard 0) both_wait.shard ne ∙ far_waiting t ne

far_left : (t : ℕ) → t ≢ 0 → one_left.shard t ≡ at_first.shard t
far_left t ne = put_other 0 t (one_left.shard 0) one_ran.shard ne ∙ far_one t ne

far_both : (t : ℕ) → t ≢ 0 → both_ran.shard t ≡ at_first.shard t
far_both t ne = put_other 0 t (both_ran.shard 0) one_left.shard ne ∙ far_left t ne

none_of_first : (t : ℕ) → entries counters (logs counters both_wait) 1 t ≡ []
none_of_first zero = refl
none_of_first (suc t) = ap (λ x. own counters 1 x.log) (far_waiting (suc t) (omega arith))

none_of_second : (t : ℕ) → entries counters (logs counters one_left) 2 t ≡ []
none_of_second zero = refl
none_of_second (suc t) = ap (λ x. own counters 2 x.log) (far_left (suc t) (omega arith))

first_hops : CanHop counters both_wait 0 1 five
first_hops = record {
  taken = λ t h. subst (λ u. IsTaken (both_wait.phase u 1)) (asked five.add t h) tt;
  number = refl;
  next = (record { same = refl; placed = refl }, none_of_first);
  turn = (record { number = 1; granted = true }, inl refl, refl, inl refl);
  told = (record { same = refl; placed = refl }, refl);
}

second_hops : CanHop counters one_left 0 2 two
second_hops = record {
  taken = λ t h. subst (λ u. IsTaken (one_left.phase u 2)) (asked two.add t h) tt;
  number = refl;
  next = (record { same = refl; placed = refl }, none_of_second);
  turn =
      (_, inl refl, refl, inr (λ p h. elim h [ inl e ↦ (let i : 2 ≡ p.number = ap (λ r. r.number) e in omega arith) | inr m ↦ absurd m ]));
  told = (record { same = refl; placed = refl }, refl);
}

pub both_run : BothRun
both_run = record {
  world = after counters both_ran (Conclude 0 2);
  runs = (
    record { settled = λ n a b. absurd (omega arith) },
    (
      record { settled = λ n a b i. absurd (other n a b i) },
      (
        record { drawn = (omega arith, omega arith); named = λ e. false≢true (ap is_none e); fresh = refl },
        (
          record { drawn = (omega arith, omega arith); named = λ e. false≢true (ap is_none e); fresh = refl },
          (
            first_hops,
            (
              record { taken = tt; ran = (5, (five, refl, (λ t ne. ap (λ x. own counters 1 x.log) (far_one t ne)), refl)) },
              (
                second_hops,
                (
                  record { taken = tt; ran = (7, (two, refl, (λ t ne. ap (λ x. own counters 2 x.log) (far_both t ne)), refl)) },
                  refl,
                ),
              ),
            ),
          ),
        ),
      ),
    ),
  );
  log = refl;
  queue = refl;
}
  where
    -- number 1 is of another caller
    other : (n : ℕ) → 0 < n → n < 2 → (after counters at_first (Draw 7 five.add)).caller n ≡ 8 → ⊥
    other zero a b i = absurd (omega (arith, a))
    other (suc zero) a b i = absurd (omega (arith, i))
    other (suc (suc n)) a b i = absurd (omega (arith, b))
