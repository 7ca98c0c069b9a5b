use Rattle.std.proofs.Common.{◌≡◌, Bool, ◌&&◌, ◌||◌, [], false, refl, sym, ap, ◌∙◌, arith}
use Rattle.std.proofs.lemmas.Bool.{le-ltb}
use Rattle.std.specs.Prelude.{nat_lt}
use Rattle.df_model.specs.Hash.{fnv64}
use Rattle.df_footprints.specs.Asks.{clashes_with}
use Rattle.df_intents.specs.Counting.{against, for_key, held}
use Rattle.df_intents.specs.Index.{tallied}
use Rattle.df_intents.proofs.AskLaws.{none_all, some_all}
use Rattle.df_intents.proofs.IndexLaws.{tells_key}
use Rattle.df_intents.proofs.index.Index.opposes_key.Goals as goal

pub returns-then-not-opposes_all : goal.returns-then-not-opposes_all
returns-then-not-opposes_all c = λ hs once tells h.
    sym (none_all c.args.key.now c.args.mode (held hs) (sym (c.opposes_all.ensures (held hs) h) ∙ c.if-not-opposes_all.true))

pub returns-then-against-gt0 : goal.returns-then-against-gt0
returns-then-against-gt0 c = λ hs once tells h.
    let alls = h.alls c.args.mode in
    sym (some_all c.args.key.now c.args.mode (held hs) (omega (arith, c.if-against-gt0.true, c.against.ensures, alls)))

pub returns : goal.returns
returns c = λ hs once tells h.
    let i = c.args.self.now in
    let key = c.args.key.now in
    let mode = c.args.mode in
    let clash : Bool = clashes_with (for_key key mode) (held hs) in
    let no_alls : nat_lt 0 (against mode i.alls) ≡ false = sym (ap (nat_lt 0) c.against.ensures) ∙ le-ltb 0 c.against.result c.if-against-gt0.false in
    let at : c.tally-tally.result.count ≡ tallied i (fnv64 key) = c.tally-tally.ensures ∙ ap (tallied i) c.requires in
    let found : c.is_some.result ≡ (nat_lt 0 (against mode (tallied i (fnv64 key))) && clash) =
    c.is_some.ensures ∙ c.find-holder.ensures hs once tells ∙ ap (λ t. nat_lt 0 (against mode t) && clash) at in
    sym (ap (λ b. b || c.is_some.result) no_alls)
    ∙ tells_key i key mode [] (held hs) (against mode i.alls) (against mode (tallied i (fnv64 key))) false c.is_some.result h refl refl found
