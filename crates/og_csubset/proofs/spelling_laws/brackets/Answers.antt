use Rattle.og_csubset.proofs.TextExamples.{brackets_left, brackets_right, brackets_products, brackets_product_first, brackets_beyond_need}
use Rattle.og_csubset.proofs.spelling_laws.brackets.Goals as goal

pub returns-clause-left : goal.returns-clause-left
returns-clause-left c = brackets_left

pub returns-clause-right : goal.returns-clause-right
returns-clause-right c = brackets_right

pub returns-clause-products : goal.returns-clause-products
returns-clause-products c = brackets_products

pub returns-clause-product_first : goal.returns-clause-product_first
returns-clause-product_first c = brackets_product_first

pub returns-clause-beyond_need : goal.returns-clause-beyond_need
returns-clause-beyond_need c = brackets_beyond_need
