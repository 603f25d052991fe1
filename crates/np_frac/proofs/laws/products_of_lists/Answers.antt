use Rattle.np_frac.proofs.Sums.{product_more, product_joined}
use Rattle.np_frac.proofs.laws.products_of_lists.Goals as goal

pub returns-clause-more : goal.returns-clause-more
returns-clause-more g c = product_more

pub returns-clause-joined : goal.returns-clause-joined
returns-clause-joined g c = product_joined
