-- The pages of an index are pages that hold its contents.
use Rattle.std.proofs.Common.{List}
use Rattle.bw_batch.specs.IndexTrees.{IsShapeOf, IsShapeWith}
use Rattle.bw_batch.specs.View.{IndexView, contents_of}
use Rattle.bw_look.specs.declared.look.shape.PageShape.{PageShape}

pub shape_with : (index : IndexView) (shape : List PageShape) → IsShapeOf index shape → IsShapeWith (contents_of index) shape
shape_with index shape (tree, of, is) = (
  tree,
  record { lawful = of.lawful; distinct = of.distinct; holds = of.contents; staged = of.staged },
  is,
)
