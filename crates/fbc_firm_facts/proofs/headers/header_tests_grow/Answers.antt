use Rattle.fbc_firm_facts.proofs.HeaderTests.{inventories-grow, numbers-grow, pointers-grow, tips-grow}
use Rattle.fbc_firm_facts.proofs.headers.header_tests_grow.Goals as goal

pub returns-clause-tips : goal.returns-clause-tips
returns-clause-tips c = tips-grow

pub returns-clause-pointers : goal.returns-clause-pointers
returns-clause-pointers c = pointers-grow

pub returns-clause-inventories : goal.returns-clause-inventories
returns-clause-inventories c = inventories-grow

pub returns-clause-numbers : goal.returns-clause-numbers
returns-clause-numbers c = numbers-grow
