-- The limits (document 01; document 02, P5). Definitions and most laws take the limit on degrees as an argument;
-- promises fix it.
--   degree_limit   16: the greatest degree of a shape or a class
--   page_limit     4,096: the most words of a page
--   list_limit     4,096: the most words of a list of shapes
use Rattle.theory.specs.Basics.{ℕ}

abbrev pub degree_limit : ℕ
degree_limit = 16

abbrev pub page_limit : ℕ
page_limit = 4096

abbrev pub list_limit : ℕ
list_limit = 4096
