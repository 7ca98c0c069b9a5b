use Rattle.std.proofs.Common.{◌≡◌, ◌-◌, [], drop, refl, ap, sym, subst, arith}
use Rattle.df_model.specs.Framing.{Splits}
use Rattle.df_model.proofs.FramingLaws.{no_split}
use Rattle.df_resp.specs.Frames.{room, word}
use Rattle.df_resp.specs.Seen.{SeesWord}
use Rattle.df_resp.specs.Stream.{joined}
use Rattle.df_resp.specs.declared.front.Seen.TheVariants.{More, Bad}
use Rattle.df_resp.proofs.StepLaws.{WordTaken, word_seen, more_inside, bad_inside, one_more_word, rest_stays, request_whole}
use Rattle.df_resp.proofs.input.take_word.Goals as goal

pub returns-in-More-clause-steps : goal.returns-in-More-clause-steps
returns-in-More-clause-steps c =
    let seen : SeesWord More c.args.held.now (word (room c.args.begun.now.total) c.args.held.now) =
    subst (λ k. SeesWord More c.args.held.now (word k c.args.held.now)) c.min-limit.ensures (subst (λ x. SeesWord More x (word c.min-limit.result x)) c.as_slice.ensures c.in-More.ensures) in
    (refl, more_inside c.args.begun.now.missing c.args.begun.now.total c.args.begun.now.words.items c.args.held.now c.requires.inside c.requires.sound seen)

pub returns-in-Bad-clause-steps : goal.returns-in-Bad-clause-steps
returns-in-Bad-clause-steps c =
    let seen : SeesWord (Bad c.in-Bad.kind c.in-Bad.at) c.args.held.now (word (room c.args.begun.now.total) c.args.held.now) =
    subst (λ k. SeesWord (Bad c.in-Bad.kind c.in-Bad.at) c.args.held.now (word k c.args.held.now)) c.min-limit.ensures
    (subst (λ x. SeesWord (Bad c.in-Bad.kind c.in-Bad.at) x (word c.min-limit.result x)) c.as_slice.ensures c.in-Bad.ensures) in
    (refl, seen.0, bad_inside c.args.begun.now.missing c.args.begun.now.total c.args.begun.now.words.items c.args.held.now (drop c.in-Bad.at c.args.held.now) c.in-Bad.kind c.requires.inside c.requires.sound seen.1)

pub returns-then-begun-gt0-clause-sound : goal.returns-then-begun-gt0-clause-sound
returns-then-begun-gt0-clause-sound c =
    let t : WordTaken c.args.begun.now.total c.in-Whole.n c.args.begun.now.words.items c.move_word.new.words.items c.args.held.now c.move_word.new.held =
    word_seen c.args.begun.now.total c.in-Whole.n c.in-Whole.used c.min-limit.result c.args.begun.now.words.items c.move_word.new.words.items c.args.held.now c.as_slice.result.now c.move_word.new.held
    c.min-limit.ensures c.as_slice.ensures c.in-Whole.ensures c.in_ok-move_word-in-Whole.ensures.words c.in_ok-move_word-in-Whole.ensures.held in
    one_more_word c.args.begun.now.missing c.args.begun.now.total c.in-Whole.n c.args.begun.now.words.items c.move_word.new.words.items t.word c.requires.sound c.if-begun-gt0.true t.len t.fits t.has_is

pub returns-then-begun-gt0-clause-same : goal.returns-then-begun-gt0-clause-same
returns-then-begun-gt0-clause-same c = λ _.
    let t : WordTaken c.args.begun.now.total c.in-Whole.n c.args.begun.now.words.items c.move_word.new.words.items c.args.held.now c.move_word.new.held =
    word_seen c.args.begun.now.total c.in-Whole.n c.in-Whole.used c.min-limit.result c.args.begun.now.words.items c.move_word.new.words.items c.args.held.now c.as_slice.result.now c.move_word.new.held
    c.min-limit.ensures c.as_slice.ensures c.in-Whole.ensures c.in_ok-move_word-in-Whole.ensures.words c.in_ok-move_word-in-Whole.ensures.held in
    rest_stays c.args.begun.now.missing c.args.begun.now.words.items c.move_word.new.words.items t.word c.args.held.now c.move_word.new.held c.if-begun-gt0.true t.has_is t.spelled

pub returns-then-begun-gt0-clause-steps : goal.returns-then-begun-gt0-clause-steps
returns-then-begun-gt0-clause-steps c =
    let t : WordTaken c.args.begun.now.total c.in-Whole.n c.args.begun.now.words.items c.move_word.new.words.items c.args.held.now c.move_word.new.held =
    word_seen c.args.begun.now.total c.in-Whole.n c.in-Whole.used c.min-limit.result c.args.begun.now.words.items c.move_word.new.words.items c.args.held.now c.as_slice.result.now c.move_word.new.held
    c.min-limit.ensures c.as_slice.ensures c.in-Whole.ensures c.in_ok-move_word-in-Whole.ensures.words c.in_ok-move_word-in-Whole.ensures.held in
    let same : joined (c.args.begun.now.missing - 1) c.move_word.new.words.items c.move_word.new.held ≡ joined c.args.begun.now.missing c.args.begun.now.words.items c.args.held.now = rest_stays c.args.begun.now.missing c.args.begun.now.words.items c.move_word.new.words.items t.word c.args.held.now c.move_word.new.held c.if-begun-gt0.true t.has_is t.spelled in
    subst (Splits (joined c.args.begun.now.missing c.args.begun.now.words.items c.args.held.now) []) (sym same) (no_split (joined c.args.begun.now.missing c.args.begun.now.words.items c.args.held.now))

pub returns-else-begun-gt0-clause-steps : goal.returns-else-begun-gt0-clause-steps
returns-else-begun-gt0-clause-steps c =
    let t : WordTaken c.args.begun.now.total c.in-Whole.n c.args.begun.now.words.items c.move_word.new.words.items c.args.held.now c.move_word.new.held =
    word_seen c.args.begun.now.total c.in-Whole.n c.in-Whole.used c.min-limit.result c.args.begun.now.words.items c.move_word.new.words.items c.args.held.now c.as_slice.result.now c.move_word.new.held
    c.min-limit.ensures c.as_slice.ensures c.in-Whole.ensures c.in_ok-move_word-in-Whole.ensures.words c.in_ok-move_word-in-Whole.ensures.held in
    let last : c.args.begun.now.missing - 1 ≡ 0 = omega (arith, c.if-begun-gt0.false) in
    request_whole c.args.begun.now.missing c.args.begun.now.total c.in-Whole.n c.args.begun.now.words.items c.move_word.new.words.items c.replace.result.items t.word
    c.args.held.now c.move_word.new.held (joined (c.args.begun.now.missing - 1) c.replace.new.dest.items c.move_word.new.held)
    c.requires.sound c.requires.inside last t.len t.fits t.has_is (ap (λ v. v.items) c.replace.ensures.value) t.spelled (ap (λ k. joined k c.replace.new.dest.items c.move_word.new.held) last)
