-- Base pages that are read by a word without a record.
use Rattle.std.proofs.Common.{◌≡◌, ℕ, ◌<◌, Option, Some, None, sym, ap, ◌∙◌, subst}
use Rattle.std.specs.Borrow.{Bor}
use Rattle.std.specs.Prelude.{slice_get}
use Rattle.bw_page.specs.declared.pages.Page.{Page}
use Rattle.bw_level.specs.Changes.{based, plain}
use Rattle.bw_chain.specs.Chains.{ChainsView, IsChain, floor_word, page_at}
use Rattle.bw_level.specs.Slots.{PageState, Free, Live, IsSoundInner}
use Rattle.bw_level.specs.Turns.{plain_at}
use Rattle.bw_chain.proofs.ChainLemmas.{no_record, on_base}

-- the page of a word without a record is the base page of that number
pub base_page : (chains : ChainsView) (word : ℕ) → IsChain chains word → word < floor_word → page_at chains word ≡ based (slice_get chains.bases word)
base_page chains word ends low = on_base chains.bases chains.records word ends (no_record chains.records word low)

-- so it is what was read of it
pub read_plain : (chains : ChainsView) (word : ℕ) (o : Option (Bor Page)) → IsChain chains word → word < floor_word → plain_at o ≡ based (slice_get chains.bases word) → page_at chains word ≡ plain_at o
read_plain chains word o ends low read = base_page chains word ends low ∙ sym read

-- so where it is a page, one was read
pub read_there : (chains : ChainsView) (word : ℕ) (o : Option (Bor Page)) (s : PageState) → IsChain chains word → word < floor_word → plain_at o ≡ based (slice_get chains.bases word) → page_at chains word ≡ Live s → o ≡ None → ⊥
read_there chains word o s ends low read is none = no_free (sym (read_plain chains word o ends low read ∙ ap plain_at none) ∙ is)
  where
    no_free : Free ≡ Live s → ⊥
    no_free e = cc

pub read_sound : (chains : ChainsView) (word : ℕ) (o : Option (Bor Page)) → IsChain chains word → word < floor_word → plain_at o ≡ based (slice_get chains.bases word) → IsSoundInner (page_at chains word) → o ≡ None → ⊥
read_sound chains word o ends low read sound none = subst IsSoundInner (read_plain chains word o ends low read ∙ ap plain_at none) sound

pub read_page : (chains : ChainsView) (word : ℕ) (o : Option (Bor Page)) (page : Bor Page) → IsChain chains word → word < floor_word → plain_at o ≡ based (slice_get chains.bases word) → o ≡ Some page → page_at chains word ≡ plain page.now
read_page chains word o page ends low read is = read_plain chains word o ends low read ∙ ap plain_at is
