use Rattle.std.proofs.Common.{◌≡◌, ◌+◌, ◌∷◌, drop, length, ap, subst, ◌∙◌, rules, arith, not}
use Rattle.df_model.specs.Members.{contains, insert}
use Rattle.df_colls.proofs.CountLaws.{next_of, room_left}
use Rattle.df_sets.proofs.MemberLaws.{SoFar, single, starts, passed, counted, after, differ, agree, as_number, at_most_one}
use Rattle.df_sets.proofs.count.count_words.Goals as goal

pub returns-then-words-eq1 : goal.returns-then-words-eq1
returns-then-words-eq1 c =
    single c.args.inside c.has.result c.args.words.now c.args.set.now.members c.index-words-0.result c.from.result (search rules) c.index-words-0.is
    (c.has.ensures ∙ ap (contains c.args.set.now.members) c.as_slice.ensures) c.from.ensures

pub words-init : goal.words-init
words-init c = record {
  so_far = (c.args.set.now.members, starts c.args.inside c.args.words.now c.args.set.now.members c.reserve.new.self.members (c.reserve.ensures.members ∙ c.new-met.ensures));
  room = search rules;
  few = omega arith;
}

pub words-preserved-then-has-inside : goal.words-preserved-then-has-inside
words-preserved-then-has-inside c =
    let words = c.args.words.now in
    let old = c.args.set.now.members in
    let i = c.words.word-index in
    let word = c.word-item.result in
    let now = c.words.invariant.so_far.0 in
    let next : drop i words ≡ word ∷ drop (i + 1) words = next_of i words word c.words-test.true c.word-item.is in
    record {
      so_far = (
        now,
        passed c.args.inside c.has-in-words.result words (drop (i + 1) words) word old now c.words.met.members c.words.n (c.has-in-words.ensures ∙ ap (contains old) c.as_slice-in-words.ensures)
            (differ c.has-in-words.result c.args.inside c.if-has-inside.true)
            (subst (λ rest. SoFar c.args.inside words old rest now c.words.met.members c.words.n) next c.words.invariant.so_far.1),
      );
      room = omega (arith, ap length next, c.words.invariant.room);
      few = omega (arith, c.words.invariant.few);
    }

pub words-preserved : goal.words-preserved
words-preserved c =
    let words = c.args.words.now in
    let old = c.args.set.now.members in
    let i = c.words.word-index in
    let word = c.word-item.result in
    let now = c.words.invariant.so_far.0 in
    let met = c.words.met.members in
    let next : drop i words ≡ word ∷ drop (i + 1) words = next_of i words word c.words-test.true c.word-item.is in
    let copied : c.in_ok-copy.field-0 ≡ word = c.in_ok-copy.ensures in
    record {
      so_far = (
        after c.args.inside now word,
        counted c.args.inside c.has-in-words.result c.add.result words (drop (i + 1) words) word old now met c.add.new.self.members c.words.n _ (c.has-in-words.ensures ∙ ap (contains old) c.as_slice-in-words.ensures)
            (agree c.has-in-words.result c.args.inside c.if-has-inside.false)
            (c.add.ensures.members ∙ ap (insert met) copied) (c.add.ensures.new ∙ ap (λ m. not (contains met m)) copied)
            (ap (λ k. c.words.n + k) (c.from-in-words.ensures ∙ as_number c.add.result))
            (subst (λ rest. SoFar c.args.inside words old rest now met c.words.n) next c.words.invariant.so_far.1),
      );
      room = room_left i words word c.words.met.spare c.add.new.self.spare next c.words.invariant.room c.add.ensures.room;
      few = omega (arith, c.words.invariant.few, c.from-in-words.ensures, at_most_one c.add.result);
    }
