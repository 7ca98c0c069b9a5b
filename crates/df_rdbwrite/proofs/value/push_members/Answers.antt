use Rattle.std.proofs.Common.{refl, arith, rules}
use Rattle.df_rdbcore.specs.Written.{written_text}
use Rattle.df_rdbwrite.proofs.RunLaws.{grown_not, grown_on, grown_behind, told_on, told_all}
use Rattle.df_rdbwrite.proofs.value.push_members.Goals as goal

pub members-init : goal.members-init
members-init c = record {
  grows = grown_not c.args.to.now.items;
  told = refl;
}

pub members-preserved : goal.members-preserved
members-preserved c = record {
  grows = grown_on c.args.to.now.items c.members.to.items c.push_text.new.to.items _ c.members.invariant.grows c.in_ok-push_text.ensures.ok;
  told = told_on (λ member. written_text member.0) c.args.run.now c.members.member-index c.member-item.result c.members.to.items c.push_text.new.to.items _ (omega arith) c.member-item.is c.in_ok-push_text.ensures.ok c.members.invariant.told;
}

pub returns-in_err-push_text-clause-err : goal.returns-in_err-push_text-clause-err
returns-in_err-push_text-clause-err c =
    let grown = grown_behind c.args.to.now.items c.members.to.items c.push_text.new.to.items c.members.invariant.grows c.in_err-push_text.ensures.err in
    search (rules, grown)

pub returns-clause-ok : goal.returns-clause-ok
returns-clause-ok c = told_all (λ member. written_text member.0) c.args.run.now c.members.member-index c.members.to.items _ (omega arith) c.members.invariant.told
