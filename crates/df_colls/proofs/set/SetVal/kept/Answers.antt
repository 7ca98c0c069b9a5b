use Rattle.std.proofs.Common.{◌++◌, take, sym, ap, ◌∙◌, arith}
use Rattle.std.specs.List.{filter}
use Rattle.std.specs.FinMap as map
use Rattle.std.proofs.lemmas.List.{take_all}
use Rattle.std.proofs.lemmas.List.Elements.{filter-append}
use Rattle.df_colls.specs.Kept.{is_kept}
use Rattle.df_colls.proofs.BodyLaws.{front_len, run_taken}
use Rattle.df_colls.proofs.PlaceLaws.{retained}
use Rattle.df_colls.proofs.set.SetVal.kept.Goals as goal

pub overflow_add-at : goal.overflow_add-at
overflow_add-at c =
    let len = map.len-entries c.self.inside.entries.contents in
    let le = front_len (map.entries c.self.inside.entries.contents) c.run-run.result.now c.runs.at c.run-run.ensures.front (omega (arith, len)) in
    omega (arith, le, len)

pub runs-preserved : goal.runs-preserved
runs-preserved c =
    let p = is_kept c.args.inside c.other.inside.entries.contents in
    let es = map.entries c.self.inside.entries.contents in
    let run = c.run-run.result.now in
    c.in_ok-keep.ensures
    ∙ ap (λ xs. xs ++ filter (λ e. p e.0) run) c.runs.invariant
    ∙ sym (filter-append (λ e. p e.0) (take c.runs.at es) run)
    ∙ ap (filter (λ e. p e.0)) (sym (run_taken es run c.runs.at c.run-run.ensures.front))

pub from_items-requires : goal.from_items-requires
from_items-requires c =
    let p = is_kept c.args.inside c.other.inside.entries.contents in
    let m = c.self.inside.entries.contents in
    let all = c.runs.invariant ∙ ap (filter (λ e. p e.0)) (take_all c.runs.at (map.entries m) (omega (arith, map.len-entries m))) in
    (retained p m c.runs.items.items all).sorted

pub returns : goal.returns
returns c =
    let p = is_kept c.args.inside c.other.inside.entries.contents in
    let m = c.self.inside.entries.contents in
    let all = c.runs.invariant ∙ ap (filter (λ e. p e.0)) (take_all c.runs.at (map.entries m) (omega (arith, map.len-entries m))) in
    c.in_ok-entries.ensures ∙ (retained p m c.runs.items.items all).same
    ∙ ap (λ v. map.retain_keys v.members p) c.self.view_is ∙ ap (λ v. map.retain_keys c.args.self.now.members (is_kept c.args.inside v.members)) c.other.view_is
