-- Pages that are written one by one.
use Rattle.std.proofs.Common.{◌≡◌, ℕ, ◌+◌, ◌<◌, List, ◌++◌, length, get_or, drop, sym, ap, ◌∙◌, append_assoc}
use Rattle.std.proofs.lemmas.List.{at_drop_more}
use Rattle.bw_look.specs.declared.look.shape.PageShape.{PageShape}
use Rattle.bw_picture.specs.Layout.{spot_of}
use Rattle.bw_picture.specs.Pictures.{page_text, pages_text}
use Rattle.bw_picture.specs.declared.layout.Frame.{Frame}
use Rattle.bw_picture.specs.declared.layout.Spot.{Spot}

module _ (frame : Frame) (all : List PageShape) where
  -- one more page was written, and the others are still to be
  pub one_more_page : (before : Spot) (i : ℕ) (page : PageShape) (text : List ℕ) → i < length all
      → page ≡ get_or all i page
      → (text ++ page_text frame all (spot_of all before page) page)
      ++ pages_text frame all (spot_of all before page) (drop (i + 1) all)
      ≡ text ++ pages_text frame all before (drop i all)
  one_more_page before i page text lt at =
      let spot = spot_of all before in
      let rest = drop (i + 1) all in
      append_assoc text (page_text frame all (spot page) page) (pages_text frame all (spot page) rest)
      ∙ ap (λ t. text ++ t) (ap (λ p. page_text frame all (spot p) p ++ pages_text frame all (spot p) rest) at
      ∙ sym (at_drop_more (pages_text frame all before) all i page lt))

-- four texts behind one, put there one by one
pub four_texts : (text a b c d : List ℕ) → (((text ++ a) ++ b) ++ c) ++ d ≡ text ++ (a ++ b ++ c ++ d)
four_texts text a b c d = simp append_assoc
