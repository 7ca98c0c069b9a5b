use Rattle.std.proofs.Common.{◌≡◌, Bool, ◌&&◌, ◌||◌, refl, sym, ap, ◌∙◌}
use Rattle.std.proofs.lemmas.Bool.{false≢true}
use Rattle.std.specs.Prelude.{is_some, nat_lt}
use Rattle.df_model.specs.Hash.{fnv64}
use Rattle.df_footprints.specs.Asks.{clashes_with}
use Rattle.df_intents.specs.Counting.{against, for_key, held}
use Rattle.df_intents.specs.Index.{tallied}
use Rattle.df_intents.proofs.IndexLaws.{entered, tells_known}
use Rattle.df_intents.proofs.index.Index.enter_key.Goals as goal
use Rattle.df_intents.proofs.index.Index.enter_key.Goals.{then-is_opposed, else-is_opposed, then-is_known, else-is_known}

pub returns-then-is_known-2-clause-counts : goal.returns-then-is_known-2-clause-counts
returns-then-is_known-2-clause-counts c = λ bs lt h.
    entered c.args.self.now c.put.new.self c.tally-tally.result.count c.entered.result.count c.with-self.result c.fnv64-hash.result c.args.key.now c.args.mode bs
    c.tally-tally.ensures (c.fnv64-hash.ensures ∙ ap fnv64 c.as_slice.ensures) c.put.ensures.tallies c.put.ensures.alls c.put.ensures.asks
    c.entered.ensures.shared c.entered.ensures.any c.with-self.ensures.shared c.with-self.ensures.any lt h

pub returns-else-is_known-2-clause-counts : goal.returns-else-is_known-2-clause-counts
returns-else-is_known-2-clause-counts c = λ bs lt h.
    entered c.args.self.now c.put.new.self c.tally-tally.result.count c.entered.result.count c.with-self.result c.fnv64-hash.result c.args.key.now c.args.mode bs
    c.tally-tally.ensures (c.fnv64-hash.ensures ∙ ap fnv64 c.as_slice.ensures) c.put.ensures.tallies c.put.ensures.alls c.put.ensures.asks
    c.entered.ensures.shared c.entered.ensures.any c.with-self.ensures.shared c.with-self.ensures.any lt h

pub returns-then-is_known-2-clause-exact : goal.returns-then-is_known-2-clause-exact
returns-then-is_known-2-clause-exact c = λ more hs once tells h.
    let alls : Bool = nat_lt 0 (against c.args.mode c.args.self.now.alls) in
    let is : c.if-is_opposed.is_known ≡ (c.args.is_opposed || alls) =
    elim c.if-is_opposed.branch [
      | then-is_opposed w ↦ w.is_known-is ∙ w.if-is_opposed.true ∙ sym (ap (λ b. b || alls) w.if-is_opposed.true)
      | else-is_opposed w ↦ w.is_known-is ∙ ap (nat_lt 0) w.against.ensures ∙ sym (ap (λ b. b || alls) w.if-is_opposed.false)
    ] in
    let found : Bool = nat_lt 0 (against c.args.mode (tallied c.args.self.now (fnv64 c.args.key.now))) && clashes_with (for_key c.args.key.now c.args.mode) (held hs) in
    c.if-is_known-2.true ∙ sym (ap (λ b. b || found) c.if-is_known-2.true) ∙ tells_known c.args.self.now c.args.key.now c.args.mode more (held hs) c.args.is_opposed c.if-is_opposed.is_known found h is refl

pub returns-else-is_known-2-clause-exact : goal.returns-else-is_known-2-clause-exact
returns-else-is_known-2-clause-exact c = λ more hs once tells h.
    let alls : Bool = nat_lt 0 (against c.args.mode c.args.self.now.alls) in
    let clash : Bool = clashes_with (for_key c.args.key.now c.args.mode) (held hs) in
    let is : c.if-is_opposed.is_known ≡ (c.args.is_opposed || alls) =
    elim c.if-is_opposed.branch [
      | then-is_opposed w ↦ w.is_known-is ∙ w.if-is_opposed.true ∙ sym (ap (λ b. b || alls) w.if-is_opposed.true)
      | else-is_opposed w ↦ w.is_known-is ∙ ap (nat_lt 0) w.against.ensures ∙ sym (ap (λ b. b || alls) w.if-is_opposed.false)
    ] in
    let at : c.tally-tally.result.count ≡ tallied c.args.self.now (fnv64 c.args.key.now) = c.tally-tally.ensures ∙ ap (tallied c.args.self.now) (c.fnv64-hash.ensures ∙ ap fnv64 c.as_slice.ensures) in
    let found : c.is_some.result ≡ (nat_lt 0 (against c.args.mode (tallied c.args.self.now (fnv64 c.args.key.now))) && clash) =
    elim c.if-is_known.branch [
      | then-is_known w ↦ absurd (false≢true (sym c.if-is_known-2.false ∙ w.if-is_known.true))
      | else-is_known w ↦ c.is_some.ensures ∙ ap is_some w.holder-is ∙ w.find-holder.ensures hs once tells ∙ ap (λ t. nat_lt 0 (against c.args.mode t) && clash) at
    ] in
    sym (ap (λ b. b || c.is_some.result) c.if-is_known-2.false) ∙ tells_known c.args.self.now c.args.key.now c.args.mode more (held hs) c.args.is_opposed c.if-is_opposed.is_known c.is_some.result h is found
