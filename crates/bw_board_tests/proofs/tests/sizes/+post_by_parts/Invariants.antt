use Rattle.bw_board_tests.proofs.tests.sizes.+post_by_parts.Given as goal

abbrev pub decreases-post_by_parts : goal.decreases-post_by_parts
decreases-post_by_parts g l = l.splits
