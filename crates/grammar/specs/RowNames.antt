-- Numbers by which a row of the grammar is known to the rules of the reading and of the limits. Nothing else rests on them. Definitions only.
use Rattle.std.specs.Prelude.{ℕ}

abbrev pub row_select : ℕ
row_select = 1

abbrev pub row_values : ℕ
row_values = 2

abbrev pub row_semi : ℕ
row_semi = 3

abbrev pub row_name : ℕ
row_name = 4

abbrev pub row_next_name : ℕ
row_next_name = 5

abbrev pub row_next_expr : ℕ
row_next_expr = 6

abbrev pub row_order : ℕ
row_order = 7

abbrev pub row_next_term : ℕ
row_next_term = 8

abbrev pub row_asc : ℕ
row_asc = 9

abbrev pub row_desc : ℕ
row_desc = 10

abbrev pub row_nulls : ℕ
row_nulls = 11

abbrev pub row_first : ℕ
row_first = 12

abbrev pub row_last : ℕ
row_last = 13

abbrev pub row_limit : ℕ
row_limit = 14

abbrev pub row_offset : ℕ
row_offset = 15

abbrev pub row_comma_offset : ℕ
row_comma_offset = 16

abbrev pub row_first_row : ℕ
row_first_row = 17

abbrev pub row_next_row : ℕ
row_next_row = 18

abbrev pub row_distinct : ℕ
row_distinct = 19

abbrev pub row_all : ℕ
row_all = 20

abbrev pub row_next_column : ℕ
row_next_column = 21

abbrev pub row_from : ℕ
row_from = 22

abbrev pub row_where : ℕ
row_where = 23

abbrev pub row_group : ℕ
row_group = 24

abbrev pub row_having : ℕ
row_having = 25

abbrev pub row_star : ℕ
row_star = 26

abbrev pub row_names : ℕ
row_names = 27

abbrev pub row_dot : ℕ
row_dot = 28

abbrev pub row_dot_star : ℕ
row_dot_star = 29

abbrev pub row_second_name : ℕ
row_second_name = 30

abbrev pub row_as : ℕ
row_as = 31

abbrev pub row_bare : ℕ
row_bare = 32

abbrev pub row_comma_join : ℕ
row_comma_join = 33

abbrev pub row_join : ℕ
row_join = 34

abbrev pub row_word_join : ℕ
row_word_join = 35

abbrev pub row_word : ℕ
row_word = 36

abbrev pub row_on : ℕ
row_on = 37

abbrev pub row_using : ℕ
row_using = 38

abbrev pub row_table : ℕ
row_table = 39

abbrev pub row_query_source : ℕ
row_query_source = 40

abbrev pub row_dot_name : ℕ
row_dot_name = 41

abbrev pub row_source_as : ℕ
row_source_as = 42

abbrev pub row_source_bare : ℕ
row_source_bare = 43

abbrev pub row_indexed_by : ℕ
row_indexed_by = 44

abbrev pub row_not_indexed : ℕ
row_not_indexed = 45

abbrev pub row_binary : ℕ
row_binary = 46

abbrev pub row_prefix : ℕ
row_prefix = 47

abbrev pub row_is : ℕ
row_is = 48

abbrev pub row_is_not : ℕ
row_is_not = 49

abbrev pub row_like : ℕ
row_like = 50

abbrev pub row_in : ℕ
row_in = 51

abbrev pub row_between : ℕ
row_between = 52

abbrev pub row_not : ℕ
row_not = 53

abbrev pub row_not_like : ℕ
row_not_like = 54

abbrev pub row_not_in : ℕ
row_not_in = 55

abbrev pub row_not_between : ℕ
row_not_between = 56

abbrev pub row_not_null : ℕ
row_not_null = 57

abbrev pub row_null_test : ℕ
row_null_test = 58

abbrev pub row_collate : ℕ
row_collate = 59

abbrev pub row_literal : ℕ
row_literal = 60

abbrev pub row_call : ℕ
row_call = 61

abbrev pub row_star_args : ℕ
row_star_args = 62

abbrev pub row_distinct_args : ℕ
row_distinct_args = 63

abbrev pub row_parens : ℕ
row_parens = 64

abbrev pub row_more_exprs : ℕ
row_more_exprs = 65

abbrev pub row_exists : ℕ
row_exists = 66

abbrev pub row_case : ℕ
row_case = 67

abbrev pub row_next_when : ℕ
row_next_when = 68

abbrev pub row_else : ℕ
row_else = 69

abbrev pub row_cast : ℕ
row_cast = 70
