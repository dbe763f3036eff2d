-- A tree that adopted the words of some pages.
use Rattle.std.proofs.Common.{◌≡◌, ℕ, ◌<◌, ◌≤◌, List, length, Option, Some, None, sym, ap, ◌∙◌, subst}
use Rattle.std.specs.List.{AllByRecursion}
use Rattle.bw_core.specs.World.{times}
use Rattle.bw_level.specs.Changes.{Bases}
use Rattle.bw_chain.specs.Chains.{Records}
use Rattle.bw_tree.specs.Stages.{IsPostedStage}
use Rattle.bw_look.specs.Trees.{IsTree, StageWords, view_of}
use Rattle.bw_look.specs.View.{TreeView, StageView}
use Rattle.bw_look.specs.Words.{put_words}
use Rattle.bw_tree.specs.PageWords.{words_of, IsPostedStageOn}
use Rattle.bw_tree.proofs.AdoptedLemmas.{Adoption, adoption}
use Rattle.bw_tree.proofs.SwappedWords.{put_back, spread_stage}

-- what is adopted on some pages is adopted on all
pub adoption_on : (heads pages given : List ℕ) (bases : Bases) (records : Records) (root next : ℕ) (staged : Option StageWords) (tree : TreeView) (s : StageWords) (links : List ℕ) → IsTree heads bases records root next staged → view_of heads bases records root next staged ≡ tree → Some s ≡ staged →
    IsPostedStageOn tree tree.staged pages given links → Adoption heads (put_words heads pages given) bases bases records root next tree tree.staged s links
adoption_on heads pages given bases records root next staged tree s links t is some posted =
    adoption heads (put_words heads pages given) bases records root next staged tree s links t is some
    (subst (λ (h : List ℕ). IsPostedStage tree tree.staged (put_words h pages given) links) (sym (ap (λ (v : TreeView). v.heads) is)) (spread_stage tree tree.staged pages given links posted))

-- what is asked of the pages and their words
pub record AreFit (size : ℕ) (pages given : List ℕ) : Type 0 where
  pub count : length given ≡ length pages
  pub there : AllByRecursion (λ p. p < size) pages
  pub once : (p : ℕ) → times p pages ≤ 1

pub posted_fit : (tree : TreeView) (staged : Option StageView) (pages given links : List ℕ) → IsPostedStageOn tree staged pages given links → AreFit (length tree.heads) pages given
posted_fit tree None pages given links posted = absurd posted
posted_fit tree (Some stage) pages given links posted = record { count = posted.1.count; there = posted.1.listed.there; once = posted.1.listed.once }

pub pages_fit : (heads pages given words : List ℕ) (bases : Bases) (records : Records) (root next : ℕ) (staged : Option StageWords) (tree : TreeView) (links : List ℕ) → view_of heads bases records root next staged ≡ tree → words ≡ given →
    IsPostedStageOn tree tree.staged pages given links → AreFit (length heads) pages words
pages_fit heads pages given words bases records root next staged tree links is same posted =
    subst (λ (w : List ℕ). AreFit (length heads) pages w) (sym same)
    (subst (λ (h : List ℕ). AreFit (length h) pages given) (sym (ap (λ (v : TreeView). v.heads) is)) (posted_fit tree tree.staged pages given links posted))

-- the words that were swapped out, put back
pub words_back : (heads pages given now kept : List ℕ) (size : ℕ) → AreFit size pages given → now ≡ put_words heads pages given → kept ≡ words_of heads pages → put_words now pages kept ≡ heads
words_back heads pages given now kept size fit put taken =
    ap (λ (l : List ℕ). put_words l pages kept) put ∙ ap (put_words (put_words heads pages given) pages) taken ∙ put_back heads pages given fit.once fit.count
