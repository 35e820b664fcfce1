use Rattle.pgql_grammar.proofs.TextLaws as law
use Rattle.pgql_grammar.proofs.laws.texts_spell_queries.Goals as goal

pub returns-clause-one_query : goal.returns-clause-one_query
returns-clause-one_query c = law.one_query

pub returns-clause-one_refusal : goal.returns-clause-one_refusal
returns-clause-one_refusal c = law.one_refusal

pub returns-clause-query_or_refusal : goal.returns-clause-query_or_refusal
returns-clause-query_or_refusal c = law.query_or_refusal

pub returns-clause-not_both : goal.returns-clause-not_both
returns-clause-not_both c = law.spelled_not_refused
