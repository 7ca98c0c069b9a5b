-- The tables have what they should: each is the one before it with eight more bits moved out.
use Rattle.std.proofs.Common.{◌≡◌, ℕ, zero, suc, ◌+◌, ◌*◌, ◌<◌, List, [], map, get_or, take, drop, refl, sym, ap, ◌∙◌, arith}
use Rattle.std.specs.List.{range_with_len}
use Rattle.std.proofs.Math.ListN.{get_or-map}
use Rattle.std.proofs.lemmas.List.{get_or-take, get_or-drop}
use Rattle.std.proofs.lemmas.List.FromFn.{get_or-map-range_with_len}
use Rattle.df_rdbcore.specs.Crc.{shifts}
use Rattle.df_rdbcore.specs.declared.crc_table.TheConstants.{TABLES, FAR_TABLES}

-- bits after bits
pub shifts-add : (n m r : ℕ) → shifts (n + m) r ≡ shifts m (shifts n r)
unfolding shifts
shifts-add zero m r = ap (λ k. shifts k r) (let e : 0 + m ≡ m = omega arith in e)
shifts-add (suc n) m r = ap (λ k. shifts k r) (let e : suc n + m ≡ suc (n + m) = omega arith in e) ∙ shifts-add n m _

first_is : get_or TABLES 0 [] ≡ map (shifts 8) (range_with_len 0 256)
unfolding shifts
first_is = refl

others_are : drop 1 TABLES ≡ map (map (shifts 8)) (take 7 TABLES)
unfolding shifts
others_are = refl

first_far_is : get_or FAR_TABLES 0 [] ≡ map (shifts 200) (range_with_len 0 256)
unfolding shifts
first_far_is = refl

others_far_are : drop 1 FAR_TABLES ≡ map (map (shifts 8)) (take 7 FAR_TABLES)
unfolding shifts
others_far_are = refl

no_bits : shifts 8 0 ≡ 0
unfolding shifts
no_bits = refl

-- tables that go on so from the first one have at each place what it stands for
goes_on : (bits : ℕ) (tables : List (List ℕ)) → get_or tables 0 [] ≡ map (shifts bits) (range_with_len 0 256) → drop 1 tables ≡ map (map (shifts 8)) (take 7 tables) → (zeros low : ℕ) → zeros < 8 → low < 256 → get_or (get_or tables zeros []) low 0 ≡ shifts (8 * zeros + bits) low
goes_on bits tables first others zero low few small =
    ap (λ t. get_or t low 0) first
    ∙ get_or-map-range_with_len (shifts bits) 0 256 low low 0 small (omega arith)
    ∙ ap (λ k. shifts k low) (let e : bits ≡ 8 * 0 + bits = omega arith in e)
goes_on bits tables first others (suc zeros) low few small =
    let fewer : zeros < 7 = omega arith in
    let before : zeros < 8 = omega arith in
    let table : get_or tables (suc zeros) [] ≡ map (shifts 8) (get_or tables zeros []) =
    ap (λ k. get_or tables k []) (let e : suc zeros ≡ 1 + zeros = omega arith in e)
    ∙ sym (get_or-drop 1 tables zeros [])
    ∙ ap (λ t. get_or t zeros []) others
    ∙ get_or-map (map (shifts 8)) (take 7 tables) zeros []
    ∙ ap (map (shifts 8)) (get_or-take 7 tables zeros [] fewer) in
    let count : 8 * zeros + bits + 8 ≡ 8 * suc zeros + bits = omega arith in
    ap (λ t. get_or t low 0) table
    ∙ ap (get_or (map (shifts 8) (get_or tables zeros [])) low) (sym no_bits)
    ∙ get_or-map (shifts 8) (get_or tables zeros []) low 0
    ∙ ap (shifts 8) (goes_on bits tables first others zeros low before small)
    ∙ sym (shifts-add (8 * zeros + bits) 8 low)
    ∙ ap (λ k. shifts k low) count

pub at_tables : (zeros low : ℕ) → zeros < 8 → low < 256 → get_or (get_or TABLES zeros []) low 0 ≡ shifts (8 * zeros + 8) low
at_tables = goes_on 8 TABLES first_is others_are

pub at_far_tables : (zeros low : ℕ) → zeros < 8 → low < 256 → get_or (get_or FAR_TABLES zeros []) low 0 ≡ shifts (8 * zeros + 200) low
at_far_tables = goes_on 200 FAR_TABLES first_far_is others_far_are
