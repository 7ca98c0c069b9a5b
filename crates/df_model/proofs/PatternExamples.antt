-- Patterns compute: cases of the KEYS page, and the corners of classes.
use Rattle.std.proofs.Common.{◌≡◌, [], ◌∷◌, refl, codes, true, false}
use Rattle.df_model.specs.Patterns.{is_match, parts, Part, range}

a_star_takes_any_bytes : is_match (codes "h*llo*") (codes "heeello world") ≡ true
a_star_takes_any_bytes = refl

a_star_takes_no_byte : is_match (codes "h*llo") (codes "hllo") ≡ true
a_star_takes_no_byte = refl

a_question_mark_takes_one_byte : is_match (codes "h?llo") (codes "hllo") ≡ false
a_question_mark_takes_one_byte = refl

a_negated_class : is_match (codes "h[^a-d]llo") (codes "hello") ≡ true
a_negated_class = refl

a_range_turned_round : is_match (codes "h[f-d]llo") (codes "hello") ≡ true
a_range_turned_round = refl

an_escaped_star : is_match (codes "a\\*") (codes "a*") ≡ true
an_escaped_star = refl

stars_match_the_empty_key : is_match (codes "**") [] ≡ true
stars_match_the_empty_key = refl

a_class_without_its_end : parts (codes "[a-") ≡ Part.Class false (range 45 45 ∷ range 97 97 ∷ []) ∷ []
a_class_without_its_end = refl

a_class_without_a_byte : parts (codes "[]a") ≡ Part.Class false [] ∷ Part.One 97 ∷ []
a_class_without_a_byte = refl
