use Rattle.std.proofs.Common.{refl, arith, rules}
use Rattle.df_rdbcore.specs.Written.{written_pair}
use Rattle.df_rdbwrite.proofs.RunLaws.{grown_not, grown_on, grown_behind, told_on, told_all}
use Rattle.df_rdbwrite.proofs.value.push_fields.Goals as goal

pub fields-init : goal.fields-init
fields-init c = record {
  grows = grown_not c.args.to.now.items;
  told = refl;
}

pub fields-preserved : goal.fields-preserved
fields-preserved c = record {
  grows = grown_on c.args.to.now.items c.fields.to.items c.push_field.new.to.items _ c.fields.invariant.grows c.in_ok-push_field.ensures.ok;
  told = told_on written_pair c.args.run.now c.fields.field-index c.field-item.result c.fields.to.items c.push_field.new.to.items _ (omega arith) c.field-item.is c.in_ok-push_field.ensures.ok c.fields.invariant.told;
}

pub returns-in_err-push_field-clause-err : goal.returns-in_err-push_field-clause-err
returns-in_err-push_field-clause-err c =
    let grown = grown_behind c.args.to.now.items c.fields.to.items c.push_field.new.to.items c.fields.invariant.grows c.in_err-push_field.ensures.err in
    search (rules, grown)

pub returns-clause-ok : goal.returns-clause-ok
returns-clause-ok c = told_all written_pair c.args.run.now c.fields.field-index c.fields.to.items _ (omega arith) c.fields.invariant.told
