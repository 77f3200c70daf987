-- Induction over outlines: what holds of no heading, and of a heading and those after it where it holds of the list
-- that it carries and of those after it, holds of every outline.
--     by-headings     that
-- Assumes nothing.
use Rattle.outline.specs.Outline.{Outline, none, ◌then◌, Heading, heading}

module _ (P : Outline → Type 0) (base : P none) (step : (o r : Outline) → P o → P r → P (heading o then r)) where
  mutual
    pub by-headings : (o : Outline) → P o
    by-headings none = base
    by-headings (h then r) = by-heading h r (by-headings r)

    by-heading : (h : Heading) (r : Outline) → P r → P (h then r)
    by-heading (heading o) r q = step o r (by-headings o) q
