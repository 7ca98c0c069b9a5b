-- Laws of splitting a stream into requests and a rest.
use Rattle.std.proofs.Common.{◌≡◌, List, [], ◌∷◌, ◌++◌, refl, sym, ap, ◌∙◌, append_assoc, append-nil}
use Rattle.std.specs.Prelude.{None}
use Rattle.std.specs.List.{flat_map, filter_map, AllByRecursion}
use Rattle.std.proofs.lemmas.List.Concat.{flat_map-append}
use Rattle.df_model.specs.Values.{Bytes}
use Rattle.df_model.specs.Words.{Words}
use Rattle.df_model.specs.Framing.{Frame, sent, IsFrame, IsRequest, words_of, sent_request, Splits}

all_both : (xs ys : List Frame) → AllByRecursion IsFrame xs → AllByRecursion IsFrame ys → AllByRecursion IsFrame (xs ++ ys)
all_both [] ys a b = b
all_both (x ∷ xs) ys a b = (a.0, all_both xs ys a.1 b)

words_both : (xs ys : List Frame) → filter_map words_of (xs ++ ys) ≡ filter_map words_of xs ++ filter_map words_of ys
words_both [] ys = refl
words_both (Frame.Request ws ∷ xs) ys = ap (λ x. ws ∷ x) (words_both xs ys)
words_both (Frame.NoWords ∷ xs) ys = words_both xs ys
words_both (Frame.NullWords ∷ xs) ys = words_both xs ys

pub no_split : (bytes : Bytes) → Splits bytes [] bytes
no_split bytes = record { frames = []; each = tt; whole = refl; requests_are = refl }

-- one split after another
pub splits_join : (a b c : Bytes) (requests more : List Words) → Splits a requests b → Splits b more c → Splits a (requests ++ more) c
splits_join a b c requests more s t = record {
  frames = s.frames ++ t.frames;
  each = all_both s.frames t.frames s.each t.each;
  whole = s.whole ∙ ap (λ x. flat_map sent s.frames ++ x) t.whole ∙ sym (append_assoc (flat_map sent s.frames) (flat_map sent t.frames) c) ∙ ap (λ x. x ++ c) (sym (flat_map-append sent s.frames t.frames));
  requests_are = ap (λ x. x ++ more) s.requests_are ∙ ap (λ x. filter_map words_of s.frames ++ x) t.requests_are ∙ sym (words_both s.frames t.frames);
}

-- a frame at the front
pub splits_wordless : (f : Frame) (a c : Bytes) → IsFrame f → words_of f ≡ None → a ≡ sent f ++ c → Splits a [] c
splits_wordless (Frame.Request ws) a c is none whole = cc
splits_wordless Frame.NoWords a c is none whole = record { frames = Frame.NoWords ∷ []; each = (tt, tt); whole = whole; requests_are = refl }
splits_wordless Frame.NullWords a c is none whole = record { frames = Frame.NullWords ∷ []; each = (tt, tt); whole = whole; requests_are = refl }

pub splits_request : (ws : Words) (a c : Bytes) → IsRequest ws → a ≡ sent_request ws ++ c → Splits a (ws ∷ []) c
splits_request ws a c is whole = record { frames = Frame.Request ws ∷ []; each = (is, tt); whole = whole ∙ ap (λ x. x ++ c) (sym (append-nil (sent_request ws))); requests_are = refl }

pub splits_more : (a b : Bytes) (requests : List Words) (piece : Bytes) → Splits a requests b → Splits (a ++ piece) requests (b ++ piece)
splits_more a b requests piece s = record {
  frames = s.frames;
  each = s.each;
  whole = ap (λ x. x ++ piece) s.whole ∙ append_assoc (flat_map sent s.frames) b piece;
  requests_are = s.requests_are;
}
