-- The codes of 01's records by name. Definitions only.
use Rattle.std.specs.Prelude.{ℕ}

abbrev pub node_absent : ℕ
node_absent = 0

abbrev pub node_query : ℕ
node_query = 1

abbrev pub node_select : ℕ
node_select = 2

abbrev pub node_values : ℕ
node_values = 3

abbrev pub node_list : ℕ
node_list = 4

abbrev pub node_star : ℕ
node_star = 5

abbrev pub node_name_star : ℕ
node_name_star = 6

abbrev pub node_column : ℕ
node_column = 7

abbrev pub node_from : ℕ
node_from = 8

abbrev pub node_join : ℕ
node_join = 9

abbrev pub node_on : ℕ
node_on = 10

abbrev pub node_using : ℕ
node_using = 11

abbrev pub node_table : ℕ
node_table = 12

abbrev pub node_query_source : ℕ
node_query_source = 13

abbrev pub node_sort : ℕ
node_sort = 14

abbrev pub node_id : ℕ
node_id = 20

abbrev pub node_string_name : ℕ
node_string_name = 21

abbrev pub node_indexed_name : ℕ
node_indexed_name = 22

abbrev pub node_join_name : ℕ
node_join_name = 23

abbrev pub node_integer : ℕ
node_integer = 24

abbrev pub node_float : ℕ
node_float = 25

abbrev pub node_string : ℕ
node_string = 26

abbrev pub node_blob : ℕ
node_blob = 27

abbrev pub node_variable : ℕ
node_variable = 28

abbrev pub node_ctime : ℕ
node_ctime = 29

abbrev pub node_null : ℕ
node_null = 30

abbrev pub node_names : ℕ
node_names = 31

abbrev pub node_call : ℕ
node_call = 32

abbrev pub node_parens : ℕ
node_parens = 33

abbrev pub node_subquery : ℕ
node_subquery = 34

abbrev pub node_exists : ℕ
node_exists = 35

abbrev pub node_case : ℕ
node_case = 36

abbrev pub node_cast : ℕ
node_cast = 37

abbrev pub node_prefix : ℕ
node_prefix = 38

abbrev pub node_binary : ℕ
node_binary = 39

abbrev pub node_null_test : ℕ
node_null_test = 40

abbrev pub node_in_list : ℕ
node_in_list = 41

abbrev pub node_in_query : ℕ
node_in_query = 42

abbrev pub node_between : ℕ
node_between = 43

abbrev pub node_collate : ℕ
node_collate = 44
