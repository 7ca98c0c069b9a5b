use Rattle.std.proofs.Common.{◌≡◌, ◌++◌, codes, ap, ◌∙◌, append_assoc}
use Rattle.df_model.specs.Values.{Bytes}
use Rattle.df_model.specs.Replies.{crlf}
use Rattle.df_resp.proofs.encoder.push_arity.Goals as goal

arity_is : (old name a b c d : Bytes) → a ≡ old ++ codes "-ERR wrong number of arguments for '" → b ≡ a ++ name → c ≡ b ++ codes "' command" → d ≡ c ++ crlf → d ≡ old ++ (codes "-" ++ (codes "ERR wrong number of arguments for '" ++ name ++ codes "' command") ++ crlf)
arity_is old name a b c d is_a is_b is_c is_d =
    let whole : d ≡ (((old ++ codes "-ERR wrong number of arguments for '") ++ name) ++ codes "' command") ++ crlf = is_d ∙ ap (λ x. x ++ crlf) (is_c ∙ ap (λ x. x ++ codes "' command") (is_b ∙ ap (λ x. x ++ name) is_a)) in
    whole ∙ simp append_assoc

pub returns-clause-ok : goal.returns-clause-ok
returns-clause-ok c =
    arity_is c.args.to.now.items c.args.name.now c.extend_from_slice.new.self.items c.extend_from_slice-2.new.self.items c.extend_from_slice-3.new.self.items c.extend_from_slice-4.new.self.items
    c.in_ok-extend_from_slice.ensures.items c.in_ok-extend_from_slice-2.ensures.items c.in_ok-extend_from_slice-3.ensures.items c.in_ok-extend_from_slice-4.ensures.items
