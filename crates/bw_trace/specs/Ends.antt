-- What a job prints at the end, where there is no fault.
use Rattle.std.specs.Prelude.{◌≡◌, ℕ, List, []}
use Rattle.std.specs.FinMap.{entries}
use Rattle.bw_model.specs.Contents.{Contents}
use Rattle.bw_model.specs.Values.{ValueBytes}
use Rattle.bw_look.specs.declared.look.shape.PageShape.{PageShape}
use Rattle.bw_picture.specs.Pictures.{picture_text}
use Rattle.bw_batch.specs.IndexTrees.{IsShapeWith}
use Rattle.bw_trace.specs.ShapeTexts.{shape_text}
use Rattle.bw_text.specs.Texts.{contents_text}
use Rattle.bw_trace.specs.declared.jobs.Job.{Job}
use Rattle.bw_trace.specs.declared.jobs.Job.TheVariants.{Run, Dump, Shape, Picture}

-- Nothing, the contents, a list of the pages that hold them, or a picture of those, for so many entries of a page.
abbrev pub IsEndText : Job → ℕ → Contents ValueBytes → List ℕ → Type 0
IsEndText Run page_max contents text = text ≡ []
IsEndText Dump page_max contents text = text ≡ contents_text (entries contents)
IsEndText Shape page_max contents text =
    (pages : List PageShape) × IsShapeWith contents pages × (text ≡ shape_text pages)
IsEndText Picture page_max contents text =
    (pages : List PageShape) × IsShapeWith contents pages × (text ≡ picture_text page_max pages)

-- whether that is a function of the contents: how pairs lie on pages depends on limits and on memory
abbrev pub IsOfContents : Job → Type 0
IsOfContents Run = Unit {0}
IsOfContents Dump = Unit {0}
IsOfContents Shape = ⊥
IsOfContents Picture = ⊥
