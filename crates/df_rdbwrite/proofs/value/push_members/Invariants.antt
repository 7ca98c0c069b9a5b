use Rattle.std.proofs.Common.{◌≡◌, ◌++◌, drop}
use Rattle.std.specs.List.{flat_map}
use Rattle.df_resp.specs.Appended.{GrowsBy}
use Rattle.df_rdbcore.specs.Written.{written_text}
use Rattle.df_rdbwrite.proofs.value.push_members.Given as goal

abbrev pub invariant-members : goal.invariant-members
invariant-members l = record {
  grows : GrowsBy l.fn.to.items l.to.items;
  told : l.to.items ++ flat_map (λ member. written_text member.0) (drop l.member-index l.run) ≡ l.fn.to.items ++ flat_map (λ member. written_text member.0) l.run;
}
