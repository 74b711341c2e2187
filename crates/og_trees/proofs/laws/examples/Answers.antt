use Rattle.og_trees.proofs.Worked.{numbers_rise, first_is_found, order_is_kept, no_files, empty_files, files_in_order, languages_differ, first_of_two_files, second_of_two_files, no_text_begins_so, first_of_two_texts, tokens_come_first}
use Rattle.og_trees.proofs.laws.examples.Goals as goal

pub returns-clause-numbers : goal.returns-clause-numbers
returns-clause-numbers c = (numbers_rise, first_is_found, order_is_kept)

pub returns-clause-trees : goal.returns-clause-trees
returns-clause-trees c = (no_files, empty_files, files_in_order)

pub returns-clause-tokens : goal.returns-clause-tokens
returns-clause-tokens c = (languages_differ, first_of_two_files, second_of_two_files)

pub returns-clause-syntax_after_tokens : goal.returns-clause-syntax_after_tokens
returns-clause-syntax_after_tokens c = (no_text_begins_so, first_of_two_texts, tokens_come_first)
