use Rattle.std.proofs.Common.{◌≡◌, ◌∙◌, sym, ap, get_or, arith, rules}
use Rattle.std.specs.Option.{option_copied}
use Rattle.df_rdbwrite.proofs.RunLaws.{grown_not, grown_on, grown_behind, list_starts, told_on, told_all, get_within, get_there}
use Rattle.df_rdbcore.specs.Written.{short, written_text}
use Rattle.df_rdbwrite.proofs.value.push_list.Goals as goal

pub elements-init : goal.elements-init
elements-init c = record {
  grows = grown_on c.args.to.now.items c.args.to.now.items c.push_len.new.to.items (short c.len.result) (grown_not c.args.to.now.items) c.in_ok-push_len.ensures.ok;
  told = list_starts c.args.list.now.items c.len.result c.args.to.now.items c.push_len.new.to.items c.len.ensures c.in_ok-push_len.ensures.ok;
}

pub unreachable-requires : goal.unreachable-requires
unreachable-requires c = get_within c.elements.at c.args.list.now.items (omega (arith, c.elements-test.true)) (sym c.get.ensures ∙ ap option_copied c.in_default.is)

pub elements-preserved : goal.elements-preserved
elements-preserved c =
    let here : c.in-Some.element.now ≡ get_or c.args.list.now.items c.elements.at c.in-Some.element.now = get_there c.elements.at c.args.list.now.items c.in-Some.element.now (sym c.get.ensures ∙ ap option_copied c.in-Some.is) in
    record {
      grows = grown_on c.args.to.now.items c.elements.to.items c.push_text.new.to.items _ c.elements.invariant.grows c.in_ok-push_text.ensures.ok;
      told = told_on written_text c.args.list.now.items c.elements.at c.in-Some.element.now c.elements.to.items _ _ (omega (arith, c.elements-test.true)) here c.in_ok-push_text.ensures.ok c.elements.invariant.told;
    }

pub returns-clause-ok : goal.returns-clause-ok
returns-clause-ok c = told_all written_text c.args.list.now.items c.elements.at c.elements.to.items _ (omega (arith, c.elements-test.false)) c.elements.invariant.told

pub returns-in_err-push_text-clause-err : goal.returns-in_err-push_text-clause-err
returns-in_err-push_text-clause-err c =
    let grown = grown_behind c.args.to.now.items c.elements.to.items c.push_text.new.to.items c.elements.invariant.grows c.in_err-push_text.ensures.err in
    search (rules, grown)
