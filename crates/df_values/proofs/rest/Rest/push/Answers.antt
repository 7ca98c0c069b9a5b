use Rattle.std.proofs.Common.{◌≡◌, ◌+◌, ◌∷◌, ◌++◌, [], length, arith}
use Rattle.df_values.proofs.JoinedLaws.{pushed, pushed_len}
use Rattle.df_values.proofs.rest.Rest.push.Goals as goal

pub invariant_of-self-2 : goal.invariant_of-self-2
invariant_of-self-2 c =
    let kept = c.self.inside.kept.items in
    let opened = c.self.inside.tail.items in
    let whole : c.push_reserved-2.new.self.items ≡ (kept ++ opened ∷ []) ++ c.args.bin ∷ [] = cc in
    let sum : c.in-Some.kept_len ≡ c.self.inside.kept_len + length opened + length c.args.bin = omega (arith, c.in-Some.ensures) in
    (pushed_len kept c.push_reserved-2.new.self.items opened c.args.bin c.in-Some.kept_len c.self.inside.kept_len whole c.self.invariant.0 sum, c.in-Some.ensures.1)

pub returns-clause-ok : goal.returns-clause-ok
returns-clause-ok c =
    let kept = c.self.inside.kept.items in
    let opened = c.self.inside.tail.items in
    let whole : c.push_reserved-2.new.self.items ≡ (kept ++ opened ∷ []) ++ c.args.bin ∷ [] = cc in
    let none : c.replace-before.new.dest.items ≡ [] = cc in
    pushed kept c.push_reserved-2.new.self.items opened c.args.bin c.replace-before.new.dest.items c.args.self.now whole none c.self.view_is
